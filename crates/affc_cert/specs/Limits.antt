-- Certificates whose numbers fit 64 bits.
use Rattle.affc_cert.specs.declared.cert.Cert.{Cert}
use Rattle.affc_certvalue.specs.proof.Limits.{FitsProof}
use Rattle.affc_cert.specs.tree.Limits.{FitsTree}
use Rattle.affc_certvalue.specs.Limits.{FitsForm}
use Rattle.std.specs.List.{All}

-- each number of the trees, moduli and proofs; the other numbers always do
pub record FitsCert (c : Cert) : Type 0 where
  pub trees : All FitsTree c.flow.trees
  pub moduli : All (λ f. All (λ m. FitsForm m.form) f.moduli) c.folds
  pub proofs : All FitsProof c.proofs
