use Rattle.std.proofs.Common.{◌≡◌, map, take}
use Rattle.affc_quast.specs.Seen.{seen}
use Rattle.affc_certify.proofs.trees.copied_flow.Given as goal

abbrev pub invariant-loop-tree : goal.invariant-loop-tree
invariant-loop-tree l = map seen l.trees ≡ map seen (take l.tree-index l.tree-items)
