use Rattle.std.proofs.Common.{length}
use Rattle.affc_split.proofs.points.+lies_in.Given as goal

abbrev pub decreases-lies_in : goal.decreases-lies_in
decreases-lies_in l = length l.ranges.now
