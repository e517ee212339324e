use Rattle.affc_quast.specs.Seen.{seen}
use Rattle.affc_quast.specs.Trees.{depth_of}
use Rattle.affc_check.proofs.walks.+walk_tree.Given as goal

abbrev pub decreases-walk_tree : goal.decreases-walk_tree
decreases-walk_tree l = depth_of (seen l.tree.now)
