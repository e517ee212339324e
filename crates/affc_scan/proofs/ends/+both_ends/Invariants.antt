use Rattle.std.proofs.Common.{length}
use Rattle.affc_scan.proofs.ends.+both_ends.Given as goal

abbrev pub decreases-both_ends : goal.decreases-both_ends
decreases-both_ends l = length l.ends
