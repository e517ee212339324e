use Rattle.std.proofs.Common.{length}
use Rattle.affc_check.proofs.list.all.+add_folds.Given as goal

abbrev pub decreases-add_folds : goal.decreases-add_folds
decreases-add_folds l = length l.folds.now
