-- What is read of a text, and why one is refused.
use Rattle.std.proofs.Common.{◌≡◌, ◌≢◌, ℕ, List, None, refl, sym, ap, subst, ◌∙◌, inl}
use Rattle.affc_nest.specs.declared.nest.Nest.{Nest}
use Rattle.affc_schedtext.specs.declared.plan.Plan.{Plan}
use Rattle.affc_cert.specs.Certificates.{Certificate, seen}
use Rattle.affc_cert.specs.Refusals.{ReadsJson, refusal, Refuses}
use Rattle.affc_cert.specs.Values.{cert_value}
use Rattle.affc_cert.specs.Within.{IsWithin}
use Rattle.affc_cert.specs.declared.cert.Cert.{Cert}
use Rattle.affc_cert.specs.declared.cert.CertFault.{CertFault}
use Rattle.affc_cert.specs.declared.cert.CertFault.TheVariants as text
use Rattle.affc_cert.specs.declared.layout.Layout.{Layout}
use Rattle.affc_cert.proofs.Within.{is_within}
use Rattle.affc_check.specs.Answers.{ProofFails, ShownFails}
use Rattle.affc_check.specs.list.Certs.{IsCertWithin}
use Rattle.affc_check.specs.list.Passes.{PassesFirst}
use Rattle.affc_check.specs.declared.fault.CheckFault.{CheckFault}
use Rattle.affc_check.specs.declared.fault.CheckFault.TheVariants as items
use Rattle.affc_check.proofs.ReadFor.{read_is_for}
use Rattle.serde_json.specs.Data.{Data}
use Rattle.affc_accept.specs.Accepted.{IsRead}
use Rattle.affc_accept.specs.Bases.{KeepBases}
use Rattle.affc_accept.specs.Columns.{in_text, from_text}
use Rattle.affc_accept.specs.Causes.{text_fault, items_fault}
use Rattle.affc_accept.specs.Layouts.{IsLayout}
use Rattle.affc_accept.specs.Refusals.{IsRefused, AcceptRefuses}
use Rattle.affc_accept.proofs.ColumnLemmas.{back_in_text, in_text_within}
use Rattle.affc_accept.proofs.Listed.{layouts_are_of_nests}

-- with the parameters first in its trees' forms it keeps the same limits
pub certificate_within : (layout : Layout) (c : Certificate) → refusal layout (cert_value (in_text layout c)) ≡ None → IsWithin layout c
certificate_within layout c right =
    let w = is_within layout (in_text layout c) right in
    record { each = w.each; words = w.words; trees = in_text_within layout.parameters layout.loads c.trees w.trees; folds = w.folds; proofs = w.proofs }

-- a certificate that was read may be checked
pub read_within : (nest : Nest) (layout : Layout) (cert : Cert) → IsLayout nest layout → refusal layout (cert_value (in_text layout (seen cert))) ≡ None → IsCertWithin nest cert
read_within nest layout cert l right = read_is_for nest layout cert (layouts_are_of_nests nest layout l) (certificate_within layout (seen cert) right)

-- what the text has comes back
text_back : (layout : Layout) (c : Certificate) → refusal layout (cert_value c) ≡ None → in_text layout (from_text layout c) ≡ c
text_back layout c right = ap (λ ts. record c { trees = ts }) (back_in_text layout.parameters layout.loads c.trees (is_within layout c right).trees)

module _ (nest : Nest) (layout : Layout) (bytes : List ℕ) (said : Certificate) (cert : Cert) (l : IsLayout nest layout) (same : seen cert ≡ from_text layout said)
    (reads : ReadsJson bytes (cert_value said)) (right : refusal layout (cert_value said) ≡ None) where
  back : said ≡ in_text layout (seen cert)
  back = sym (ap (in_text layout) same ∙ text_back layout said right)

  pub is_read : IsRead nest bytes cert
  is_read = record {
    layout = layout;
    is_layout = l;
    reads = subst (λ c. ReadsJson bytes (cert_value c)) back reads;
    right = subst (λ c. refusal layout (cert_value c) ≡ None) back right;
  }

  pub is_cert_within : IsCertWithin nest cert
  is_cert_within = read_within nest layout cert l (subst (λ c. refusal layout (cert_value c) ≡ None) back right)

-- ---- Texts

abbrev WhyRefused : (layout : Layout) (bytes : List ℕ) (fault : CertFault) → Type 0
WhyRefused layout bytes fault = (d : Data) × ReadsJson bytes d × Refuses layout d fault

refused : (nest : Nest) (layout : Layout) (bytes : List ℕ) (fault : CertFault) → IsLayout nest layout → WhyRefused layout bytes fault → IsRefused nest bytes fault
refused nest layout bytes fault l w = record { layout = layout; is_layout = l; value = w.0; reads = w.1; refuses = w.2 }

-- a text is refused for its cause
pub text_refused : (nest : Nest) (layout : Layout) (plan : Plan) (bytes : List ℕ) (fault : CertFault) → IsLayout nest layout → (fault ≡ text.Json → (d : Data) → ¬ (ReadsJson bytes d))
    → (fault ≢ text.Json → fault ≢ text.Memory → (d : Data) × ReadsJson bytes d × Refuses layout d fault) → AcceptRefuses nest plan bytes (text_fault fault)
text_refused nest layout plan bytes text.Json l none why = none refl
text_refused nest layout plan bytes text.Version l none why = refused nest layout bytes text.Version l (why (λ (e : text.Version ≡ text.Json). cc) (λ (e : text.Version ≡ text.Memory). cc))
text_refused nest layout plan bytes (text.Shape part) l none why =
    inl (refused nest layout bytes (text.Shape part) l (why (λ (e : text.Shape part ≡ text.Json). cc) (λ (e : text.Shape part ≡ text.Memory). cc)))
text_refused nest layout plan bytes (text.Number part) l none why = refused nest layout bytes (text.Number part) l (why (λ (e : text.Number part ≡ text.Json). cc) (λ (e : text.Number part ≡ text.Memory). cc))
text_refused nest layout plan bytes text.Memory l none why = tt

-- ---- Items

module _ (nest : Nest) (plan : Plan) (bytes : List ℕ) (cert : Cert) (read : IsRead nest bytes cert) (kept : KeepBases nest plan.folds cert.folds) where
  pub items_refused : (fault : CheckFault) → ((part : ℕ) → fault ≡ items.Number part → PassesFirst nest plan.schedule cert part) → ((n : ℕ) → fault ≡ items.Proof n → ProofFails nest plan.schedule cert n)
      → ((n : ℕ) → fault ≡ items.Shown n → ShownFails nest plan.schedule cert n) → AcceptRefuses nest plan bytes (items_fault fault)
  items_refused (items.Number part) number proof shown = record { cert = cert; read = read; bases_kept = kept; says = number part refl }
  items_refused (items.Proof n) number proof shown = record { cert = cert; read = read; bases_kept = kept; says = proof n refl }
  items_refused (items.Shown n) number proof shown = record { cert = cert; read = read; bases_kept = kept; says = shown n refl }
  items_refused items.Memory number proof shown = tt
