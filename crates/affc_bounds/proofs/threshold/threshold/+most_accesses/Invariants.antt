use Rattle.std.proofs.Common.{length}
use Rattle.affc_bounds.proofs.threshold.threshold.+most_accesses.Given as goal

abbrev pub decreases-most_accesses : goal.decreases-most_accesses
decreases-most_accesses l = length l.entries.now
