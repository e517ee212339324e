use Rattle.std.proofs.Common.{length}
use Rattle.affc_bounds.proofs.threshold.threshold.+most_dimensions.Given as goal

abbrev pub decreases-most_dimensions : goal.decreases-most_dimensions
decreases-most_dimensions l = length l.arrays.now
