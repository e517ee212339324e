use Rattle.std.proofs.Common.{length}
use Rattle.affc_check.proofs.list.trees.+add_groups_in.Given as goal

abbrev pub decreases-add_groups_in : goal.decreases-add_groups_in
decreases-add_groups_in l = length l.parts.now
