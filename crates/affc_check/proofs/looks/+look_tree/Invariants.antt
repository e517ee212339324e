use Rattle.affc_quast.specs.Seen.{seen}
use Rattle.affc_quast.specs.Trees.{depth_of}
use Rattle.affc_check.proofs.looks.+look_tree.Given as goal

abbrev pub decreases-look_tree : goal.decreases-look_tree
decreases-look_tree l = depth_of (seen l.tree.now)
