use Rattle.std.proofs.Common.{length}
use Rattle.affc_bounds.proofs.accesses.+in_accesses.Given as goal

abbrev pub decreases-in_accesses : goal.decreases-in_accesses
decreases-in_accesses l = length l.accesses.now
