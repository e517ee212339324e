use Rattle.std.proofs.Common.{length}
use Rattle.affc_bounds.proofs.threshold.threshold.+points_in.Given as goal

abbrev pub decreases-points_in : goal.decreases-points_in
decreases-points_in l = length l.ranges.now
