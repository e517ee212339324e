use Rattle.std.proofs.Common.{length}
use Rattle.affc_driver.proofs.folding.+total_cost.Given as goal

abbrev pub decreases-total_cost : goal.decreases-total_cost
decreases-total_cost l = length l.folds.now
