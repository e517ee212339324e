use Rattle.std.proofs.Common.{length}
use Rattle.affc_folds.proofs.folding.+add_folds.Given as goal

abbrev pub decreases-add_folds : goal.decreases-add_folds
decreases-add_folds g l = length l.arrays.now
