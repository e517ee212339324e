use Rattle.std.proofs.Common.{length}
use Rattle.affc_latest.proofs.greatest.+add_opposite_rows.Given as goal

abbrev pub decreases-add_opposite_rows : goal.decreases-add_opposite_rows
decreases-add_opposite_rows l = length l.rows.now
