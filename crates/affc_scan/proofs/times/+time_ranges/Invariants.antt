use Rattle.std.proofs.Common.{length}
use Rattle.affc_scan.proofs.times.+time_ranges.Given as goal

abbrev pub decreases-time_ranges : goal.decreases-time_ranges
decreases-time_ranges l = length l.statements.now
