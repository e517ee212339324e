use Rattle.std.proofs.Common.{ap, ◌∙◌}
use Rattle.serde_json.specs.View.{view}
use Rattle.affc_certvalue.specs.proof.Verdicts.{pair}
use Rattle.affc_certvalue.proofs.Steps.{all_kept}
use Rattle.affc_certvalue.proofs.proof.judge.pairs_verdict.Goals as goal

pub loop-value-preserved : goal.loop-value-preserved
loop-value-preserved c =
    all_kept pair c.args.items.now c.loop-value.value-index c.value-item.result c.loop-value.worst c.and-worst.result c.pair_verdict.result _ c.loop-value-test.true c.loop-value.invariant
    c.and-worst.ensures (c.pair_verdict.ensures ∙ ap (λ v. pair (view v)) c.value-item.is)
