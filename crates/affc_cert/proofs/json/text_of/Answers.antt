use Rattle.std.proofs.Common.{◌≤◌, Some, Result, Ok, Err, ap, ◌∙◌, arith}
use Rattle.std.specs.Prelude.{IfOk}
use Rattle.std.proofs.lemmas.Result.{IfOk-weaker}
use Rattle.serde_json.specs.Data.{depth}
use Rattle.serde_json.specs.View.{view}
use Rattle.serde_json.specs.Written.{compact_text, has_float}
use Rattle.affc_cert.specs.Certificates.{seen}
use Rattle.affc_cert.proofs.Flat.{cert_has_no_float, cert_is_shallow}
use Rattle.affc_cert.proofs.json.text_of.Goals as goal

if_both : {T E : Type 0} (r : Result T E) (P Q R : T → Type 0) → ((x : T) → P x → Q x → R x) → IfOk r P → IfOk r Q → IfOk r R
if_both (Ok x) P Q R f p q = f x p q
if_both (Err y) P Q R f p q = tt

pub returns-clause-text : goal.returns-clause-text
returns-clause-text c =
    let same = c.in_ok-value.ensures in
    IfOk-weaker c.to_vec.result _ _ (λ b h. h (ap has_float same ∙ cert_has_no_float (seen c.args.cert.now)) ∙ ap compact_text same) c.to_vec.ensures.text

pub returns-clause-reads : goal.returns-clause-reads
returns-clause-reads c =
    let same = c.in_ok-value.ensures in
    let shallow : depth (view c.in_ok-value.value) ≤ 127 = omega (arith, ap depth same, cert_is_shallow (seen c.args.cert.now)) in
    if_both c.to_vec.result _ _ _ (λ b u h. (u, h shallow ∙ ap Some same)) c.to_vec.ensures.utf8 c.to_vec.ensures.reads_back
