use Rattle.std.proofs.Common.{◌≡◌, map, take}
use Rattle.serde_json.specs.View.{view}
use Rattle.affc_cert.specs.tree.Values.{tree_value}
use Rattle.affc_quast.specs.Seen as quast
use Rattle.affc_cert.proofs.json.trees_to_value.Given as goal

abbrev pub invariant-loop-tree : goal.invariant-loop-tree
invariant-loop-tree l = map view l.values.items ≡ map tree_value (map quast.seen (take l.tree-index l.trees))
