use Rattle.std.proofs.Common.{length}
use Rattle.affc_rewrite.proofs.left_whole.+are_units.Given as goal

abbrev pub decreases-are_units : goal.decreases-are_units
decreases-are_units l = length l.rows.now
