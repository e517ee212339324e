use Rattle.std.proofs.Common.{length}
use Rattle.affc_check.proofs.fold_looks.+look_folds.Given as goal

abbrev pub decreases-look_folds : goal.decreases-look_folds
decreases-look_folds l = length l.folds.now
