use Rattle.std.proofs.Common.{ap, ◌∙◌}
use Rattle.serde_json.specs.View.{view}
use Rattle.affc_certvalue.specs.fold.Folds.{modulus}
use Rattle.affc_certvalue.proofs.Steps.{all_kept}
use Rattle.affc_certvalue.proofs.fold.judge.moduli_among.Goals as goal

pub loop-value-preserved : goal.loop-value-preserved
loop-value-preserved c =
    all_kept (modulus c.args.parameters) c.args.items.now c.loop-value.value-index c.value-item.result c.loop-value.worst c.and-worst.result c.modulus_verdict.result _ c.loop-value-test.true c.loop-value.invariant
    c.and-worst.ensures (c.modulus_verdict.ensures ∙ ap (λ v. modulus c.args.parameters (view v)) c.value-item.is)
