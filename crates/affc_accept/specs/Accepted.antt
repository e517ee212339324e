-- When a text is a certificate of a nest and a plan.
use Rattle.std.specs.Prelude.{◌≡◌, ℕ, List, None}
use Rattle.affc_ast.specs.declared.tree.ArrayId.{ArrayId}
use Rattle.affc_basis.specs.declared.fold.Fold.{Fold}
use Rattle.affc_nest.specs.declared.nest.Nest.{Nest}
use Rattle.affc_schedtext.specs.declared.plan.Plan.{Plan}
use Rattle.affc_cert.specs.Certificates.{seen}
use Rattle.affc_cert.specs.Refusals.{ReadsJson, refusal}
use Rattle.affc_cert.specs.Values.{cert_value}
use Rattle.affc_cert.specs.declared.cert.Cert.{Cert}
use Rattle.affc_cert.specs.declared.layout.Layout.{Layout}
use Rattle.affc_check.specs.Answers.{IsChecked}
use Rattle.affc_check.specs.declared.check.Checked.{Checked}
use Rattle.affc_accept.specs.Bases.{KeepBases}
use Rattle.affc_accept.specs.Columns.{in_text}
use Rattle.affc_accept.specs.Layouts.{IsLayout}

-- The text reads as the certificate, with the iterators first in its trees' forms, and it has nothing wrong with it for the nest's
-- layout. That the products of rows and inverse forms are identities is in the type of a basis.
pub record IsRead (nest : Nest) (text : List ℕ) (cert : Cert) : Type 0 where
  pub layout : Layout
  pub is_layout : IsLayout nest layout
  pub reads : ReadsJson text (cert_value (in_text layout (seen cert)))
  pub right : refusal layout (cert_value (in_text layout (seen cert))) ≡ None

-- The text reads as a certificate with the plan's bases. It is valid for the plan's schedule, and these are its folds, in order.
pub record IsAccepted (nest : Nest) (plan : Plan) (text : List ℕ) (folds : List (ArrayId × Fold)) : Type 0 where
  pub cert : Cert
  pub read : IsRead nest text cert
  pub bases : KeepBases nest plan.folds cert.folds
  pub checked : Checked
  pub is_checked : IsChecked nest plan.schedule cert checked
  pub are : checked.folds.items ≡ folds

-- the same, with so many proofs behind the last question's
pub record AcceptsSparing (nest : Nest) (plan : Plan) (text : List ℕ) (folds : List (ArrayId × Fold)) (spare : ℕ) : Type 0 where
  pub accepted : IsAccepted nest plan text folds
  pub proofs : accepted.checked.spare ≡ spare
