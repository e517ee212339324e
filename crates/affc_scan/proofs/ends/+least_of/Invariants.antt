use Rattle.std.proofs.Common.{length}
use Rattle.affc_scan.proofs.ends.+least_of.Given as goal

abbrev pub decreases-least_of : goal.decreases-least_of
decreases-least_of l = length l.rows.now
