use Rattle.std.proofs.Common.{length}
use Rattle.affc_bounds.proofs.accesses.+in_dimensions.Given as goal

abbrev pub decreases-in_dimensions : goal.decreases-in_dimensions
decreases-in_dimensions l = length l.subs.now
