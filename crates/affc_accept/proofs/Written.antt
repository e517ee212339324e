-- A certificate that isn't written yet.
use Rattle.std.proofs.Common.{◌≡◌, ◌≢◌, ℕ, List, None, sym, subst}
use Rattle.affc_nest.specs.declared.nest.Nest.{Nest}
use Rattle.affc_schedtext.specs.declared.plan.Plan.{Plan}
use Rattle.affc_cert.specs.Certificates.{seen}
use Rattle.affc_cert.specs.Refusals.{ReadsJson, refusal, Refuses}
use Rattle.affc_cert.specs.Values.{cert_value}
use Rattle.affc_cert.specs.declared.cert.Cert.{Cert}
use Rattle.affc_cert.specs.declared.cert.CertFault.{CertFault}
use Rattle.affc_cert.specs.declared.cert.CertFault.TheVariants as text
use Rattle.affc_cert.specs.declared.layout.Layout.{Layout}
use Rattle.affc_cert.proofs.Broken.{right_is_not_refused}
use Rattle.affc_check.specs.list.Certs.{IsCertWithin}
use Rattle.affc_accept.specs.Accepted.{IsRead}
use Rattle.affc_accept.specs.Causes.{text_fault}
use Rattle.affc_accept.specs.Columns.{in_text}
use Rattle.affc_accept.specs.Layouts.{IsLayout}
use Rattle.affc_accept.specs.Refusals.{AcceptRefuses}
use Rattle.affc_accept.proofs.Refused.{read_within}
use Rattle.affc_accept.proofs.Unique.{one_layout}

module _ (nest : Nest) (layout : Layout) (bytes : List ℕ) (cert turned again : Cert) (l : IsLayout nest layout) (same : again ≡ cert) (is : seen turned ≡ in_text layout (seen cert))
    (reads : ReadsJson bytes (cert_value (seen turned))) (right : refusal layout (cert_value (seen turned)) ≡ None) where
  right_in_text : refusal layout (cert_value (in_text layout (seen again))) ≡ None
  right_in_text = subst (λ c. refusal layout (cert_value (in_text layout (seen c))) ≡ None) (sym same) (subst (λ c. refusal layout (cert_value c) ≡ None) is right)

  pub written_reads : IsRead nest bytes again
  written_reads = record {
    layout = layout;
    is_layout = l;
    reads = subst (λ c. ReadsJson bytes (cert_value (in_text layout (seen c)))) (sym same) (subst (λ c. ReadsJson bytes (cert_value c)) is reads);
    right = right_in_text;
  }

  pub written_within : IsCertWithin nest again
  written_within = read_within nest layout again l right_in_text

-- what is wrong with the value that would be written is wrong with each text that reads so: there is none that has nothing wrong
pub unwritten : (nest : Nest) (layout : Layout) (plan : Plan) (bytes : List ℕ) (cert turned : Cert) (fault : CertFault) → IsLayout nest layout → seen turned ≡ in_text layout (seen cert)
    → (fault ≢ text.Memory → Refuses layout (cert_value (seen turned)) fault) → IsRead nest bytes cert → AcceptRefuses nest plan bytes (text_fault fault)
unwritten nest layout plan bytes cert turned fault l is why read = by fault why
  where
    right : refusal layout (cert_value (seen turned)) ≡ None
    right = subst (λ c. refusal layout (cert_value c) ≡ None) (sym is)
        (subst (λ (m : Layout). refusal m (cert_value (in_text m (seen cert))) ≡ None) (one_layout nest read.layout layout read.is_layout l) read.right)

    by : (f : CertFault) → (f ≢ text.Memory → Refuses layout (cert_value (seen turned)) f) → AcceptRefuses nest plan bytes (text_fault f)
    by text.Json why = absurd (right_is_not_refused layout turned text.Json right (why (λ (e : text.Json ≡ text.Memory). cc)))
    by text.Version why = absurd (right_is_not_refused layout turned text.Version right (why (λ (e : text.Version ≡ text.Memory). cc)))
    by (text.Shape part) why = absurd (right_is_not_refused layout turned (text.Shape part) right (why (λ (e : text.Shape part ≡ text.Memory). cc)))
    by (text.Number part) why = absurd (right_is_not_refused layout turned (text.Number part) right (why (λ (e : text.Number part ≡ text.Memory). cc)))
    by text.Memory why = tt
