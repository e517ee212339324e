use Rattle.std.proofs.Common.{ap, ◌∙◌}
use Rattle.serde_json.specs.View.{view}
use Rattle.affc_certvalue.specs.proof.Verdicts.{proof}
use Rattle.affc_cert.proofs.Tops.{each_kept}
use Rattle.affc_cert.proofs.refuse.add_proofs.Goals as goal

pub loop-value-preserved : goal.loop-value-preserved
loop-value-preserved c =
    each_kept proof c.args.items.now c.loop-value.value-index c.value-item.result c.args.verdicts.now.items c.loop-value.verdicts.items c.push.new.self.items c.proof_verdict.result c.loop-value-test.true
    c.loop-value.invariant c.in_ok-push.ensures.items (c.proof_verdict.ensures ∙ ap (λ v. proof (view v)) c.value-item.is)
