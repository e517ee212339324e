use Rattle.affc_quast.specs.Seen.{seen}
use Rattle.affc_quast.specs.Trees.{depth_of}
use Rattle.affc_life.proofs.walk.+add_under.Given as goal

abbrev pub decreases-add_under : goal.decreases-add_under
decreases-add_under l = depth_of (seen l.tree.now)
