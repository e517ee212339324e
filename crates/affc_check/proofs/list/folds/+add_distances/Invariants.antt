use Rattle.std.proofs.Common.{length}
use Rattle.affc_check.proofs.list.folds.+add_distances.Given as goal

abbrev pub decreases-add_distances : goal.decreases-add_distances
decreases-add_distances l = length l.systems.now
