use Rattle.std.proofs.Common.{length}
use Rattle.affc_rewrite.proofs.subscripts.+by_folds.Given as goal

abbrev pub decreases-by_folds : goal.decreases-by_folds
decreases-by_folds l = length l.folds.now
