use Rattle.std.proofs.Common.{ap, ◌∙◌, arith}
use Rattle.serde_json.specs.Find.{as_array}
use Rattle.serde_json.specs.View.{view}
use Rattle.affc_certvalue.specs.Verdicts.{list}
use Rattle.affc_certvalue.specs.proof.Verdicts.{proof_node, arity_of}
use Rattle.affc_certvalue.proofs.proof.Parts.{node_kept}
use Rattle.affc_certvalue.proofs.proof.judge.nodes_verdict.Goals as goal

pub loop-value-preserved : goal.loop-value-preserved
loop-value-preserved c =
    record {
      same =
          node_kept c.args.nodes.now c.loop-value.value-index c.loop-value.wanted c.step_verdict-verdict.result.1 c.value-item.result c.loop-value.worst c.and-worst.result
          c.step_verdict-verdict.result.0 _ c.loop-value-test.true c.if-wanted-eq0.false c.loop-value.invariant.same c.and-worst.ensures
          (c.step_verdict-verdict.ensures.verdict ∙ ap (λ v. list proof_node (view v)) c.value-item.is) (c.step_verdict-verdict.ensures.arity ∙ ap (λ v. arity_of (as_array (view v))) c.value-item.is);
      few = omega (arith, c.step_verdict-verdict.ensures.few, c.loop-value.invariant.few, c.if-wanted-eq0.false);
    }
