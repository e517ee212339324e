use Rattle.std.proofs.Common.{length}
use Rattle.affc_check.proofs.list.trees.+add_leaves.Given as goal

abbrev pub decreases-add_leaves : goal.decreases-add_leaves
decreases-add_leaves l = length l.leaves.now
