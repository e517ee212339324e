use Rattle.std.proofs.Common.{length}
use Rattle.affc_scan.proofs.ends.+greatest_of.Given as goal

abbrev pub decreases-greatest_of : goal.decreases-greatest_of
decreases-greatest_of l = length l.rows.now
