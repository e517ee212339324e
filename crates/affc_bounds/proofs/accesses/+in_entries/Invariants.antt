use Rattle.std.proofs.Common.{length}
use Rattle.affc_bounds.proofs.accesses.+in_entries.Given as goal

abbrev pub decreases-in_entries : goal.decreases-in_entries
decreases-in_entries l = length l.entries.now
