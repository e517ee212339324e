use Rattle.std.proofs.Common.{length}
use Rattle.affc_check.proofs.fold_looks.+look_rows.Given as goal

abbrev pub decreases-look_rows : goal.decreases-look_rows
decreases-look_rows l = length l.more.now
