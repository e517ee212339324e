use Rattle.std.proofs.Common.{◌≡◌, ◌≢◌, ◌≤◌, ap, sym, subst, ◌∙◌, arith, None}
use Rattle.std.specs.Prelude.{IfErr, OnOk}
use Rattle.std.proofs.lemmas.Result.{IfOk-weaker}
use Rattle.serde_json.specs.Data.{Data, depth}
use Rattle.serde_json.specs.View.{view}
use Rattle.serde_json.specs.Written.{compact_text, has_float}
use Rattle.affc_cert.specs.Certificates.{seen}
use Rattle.affc_cert.specs.Refusals.{ReadsJson, Refuses, refusal}
use Rattle.affc_cert.specs.declared.cert.CertFault.TheVariants as fault
use Rattle.affc_cert.proofs.Flat.{cert_has_no_float, cert_is_shallow}
use Rattle.affc_cert.proofs.json.to_json_for.Goals as goal

pub returns-in-Ok-clause-text : goal.returns-in-Ok-clause-text
returns-in-Ok-clause-text c =
    let same = c.in-Ok.ensures in
    IfOk-weaker c.right_text.result _ _ (λ b h. h (ap has_float same ∙ cert_has_no_float (seen c.args.cert.now)) ∙ ap compact_text same) c.right_text.ensures.text

pub returns-in-Ok-clause-reads : goal.returns-in-Ok-clause-reads
returns-in-Ok-clause-reads c =
    let same = c.in-Ok.ensures in
    let shallow : depth (view c.in-Ok.value) ≤ 127 = omega (arith, ap depth same, cert_is_shallow (seen c.args.cert.now)) in
    IfOk-weaker c.right_text.result _ _ (λ b h. subst (ReadsJson b.items) same (h shallow)) c.right_text.ensures.reads

pub returns-in-Ok-clause-right : goal.returns-in-Ok-clause-right
returns-in-Ok-clause-right c = subst (λ d. OnOk c.right_text.result (refusal c.args.layout.now d ≡ None)) c.in-Ok.ensures c.right_text.ensures.right

pub returns-in-Ok-clause-err : goal.returns-in-Ok-clause-err
returns-in-Ok-clause-err c = subst (λ d. IfErr c.right_text.result (λ e. e ≢ fault.Memory → Refuses c.args.layout.now d e)) c.in-Ok.ensures c.right_text.ensures.err
