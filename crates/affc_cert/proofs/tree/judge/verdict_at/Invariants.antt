use Rattle.std.proofs.Common.{◌≡◌, drop, reverse}
use Rattle.serde_json.specs.View.{items_view}
use Rattle.affc_certvalue.specs.Verdicts.{worse}
use Rattle.affc_cert.specs.tree.Trees.{tree_nodes}
use Rattle.affc_cert.proofs.tree.judge.verdict_at.Given as goal

abbrev pub invariant-loop-value : goal.invariant-loop-value
invariant-loop-value l =
    worse l.worst (tree_nodes l.statements (reverse l.places.items) (items_view (drop l.value-index l.nodes))) ≡ tree_nodes l.statements (reverse l.initial.places.items) (items_view l.nodes)
