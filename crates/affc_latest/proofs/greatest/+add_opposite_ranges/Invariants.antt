use Rattle.std.proofs.Common.{length}
use Rattle.affc_latest.proofs.greatest.+add_opposite_ranges.Given as goal

abbrev pub decreases-add_opposite_ranges : goal.decreases-add_opposite_ranges
decreases-add_opposite_ranges l = length l.ranges.now
