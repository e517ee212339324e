use Rattle.std.proofs.Common.{◌≡◌, map, take}
use Rattle.serde_json.specs.View.{view}
use Rattle.affc_cert.specs.tree.Values.{tree_value}
use Rattle.affc_quast.specs.Seen as quast
use Rattle.affc_cert.proofs.json.trees_among.Given as goal

abbrev pub invariant-loop-value : goal.invariant-loop-value
invariant-loop-value l = map tree_value (map quast.seen l.trees) ≡ map view (take l.value-index l.items)
