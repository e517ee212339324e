use Rattle.std.proofs.Common.{◌≡◌, ◌+◌, ◌≤◌, drop}
use Rattle.serde_json.specs.View.{items_view}
use Rattle.affc_certvalue.specs.Verdicts.{worse}
use Rattle.affc_certvalue.specs.proof.Verdicts.{proof_nodes}
use Rattle.affc_certvalue.proofs.proof.judge.nodes_verdict.Given as goal

abbrev pub invariant-loop-value : goal.invariant-loop-value
invariant-loop-value l =
    record {
      same : worse l.worst (proof_nodes l.wanted (items_view (drop l.value-index l.nodes))) ≡ proof_nodes 1 (items_view l.nodes);
      few : l.wanted ≤ l.value-index + 1;
    }
