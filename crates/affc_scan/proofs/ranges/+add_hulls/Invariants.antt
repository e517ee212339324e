use Rattle.std.proofs.Common.{length}
use Rattle.affc_scan.proofs.ranges.+add_hulls.Given as goal

abbrev pub decreases-add_hulls : goal.decreases-add_hulls
decreases-add_hulls l = length l.rs.now
