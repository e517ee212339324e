-- What the answers of a check say.
use Rattle.std.specs.Prelude.{◌≡◌, ℕ, ◌+◌, ℤ, List, length, Some, slice_get}
use Rattle.std.specs.List.{AllZip}
use Rattle.affc_ast.specs.declared.tree.ArrayId.{ArrayId}
use Rattle.affc_system.specs.Systems.{Rows}
use Rattle.affc_farkas.specs.declared.proof.Proof.{Proof}
use Rattle.affc_trace.specs.declared.schedule.Schedule.{Schedule}
use Rattle.affc_basis.specs.declared.fold.Fold.{Fold}
use Rattle.affc_nest.specs.declared.nest.Nest.{Nest}
use Rattle.affc_cert.specs.declared.cert.Cert.{Cert}
use Rattle.affc_check.specs.list.Certs.{AreItems}
use Rattle.affc_check.specs.list.Items.{Item, Question, Shown, FoldShown}
use Rattle.affc_check.specs.Laws.{IsFoldShown}
use Rattle.affc_check.specs.list.Passes.{NonePasses}
use Rattle.affc_check.specs.Valid.{AreValid, FailsFirst, questions_among}
use Rattle.affc_check.specs.declared.check.Checked.{Checked}

-- ---- Of items

-- the first item that fails is a question, with this number from 0
pub record FailsAtQuestion (items : List Item) (proofs : List Proof) (n : ℕ) : Type 0 where
  pub first : FailsFirst items proofs n
  pub system : Rows
  pub question : slice_get items n ≡ Some (Question system)

-- the first item that fails is a point that is shown, with this number from 0
pub record FailsAtPoint (items : List Item) (proofs : List Proof) (n : ℕ) : Type 0 where
  pub first : FailsFirst items proofs n
  pub system : Rows
  pub point : List ℤ
  pub shown : slice_get items n ≡ Some (Shown system point)

-- ---- Of certificates

-- the fold of an array that a certificate says, with its marks
pub record IsFoldMade (f : FoldShown) (made : ArrayId × Fold) : Type 0 where
  pub array : made.0.0 ≡ f.array
  pub shown : IsFoldShown f made.1

-- the items of the certificate are valid, with so many proofs behind the last question's, and no part of it passes the limits
pub record IsProved (nest : Nest) (schedule : Schedule) (c : Cert) (spare : ℕ) : Type 0 where
  pub items : List Item
  pub are : AreItems nest schedule c items
  pub within : NonePasses nest schedule c
  pub valid : AreValid items c.proofs
  pub proofs : length c.proofs ≡ questions_among items + spare

-- the certificate is valid, and these are its folds, in order, and the number of its proofs behind the last question's
pub record IsChecked (nest : Nest) (schedule : Schedule) (c : Cert) (checked : Checked) : Type 0 where
  pub items : List Item
  pub are : AreItems nest schedule c items
  pub valid : AreValid items c.proofs
  pub folds : AllZip IsFoldMade are.folds checked.folds.items
  pub proofs : length c.proofs ≡ questions_among items + checked.spare

-- no part passes the limits, and the item with this number is the first that fails: a question, or a point that is shown
pub record ProofFails (nest : Nest) (schedule : Schedule) (c : Cert) (n : ℕ) : Type 0 where
  pub within : NonePasses nest schedule c
  pub items : List Item
  pub are : AreItems nest schedule c items
  pub fails : FailsAtQuestion items c.proofs n

pub record ShownFails (nest : Nest) (schedule : Schedule) (c : Cert) (n : ℕ) : Type 0 where
  pub within : NonePasses nest schedule c
  pub items : List Item
  pub are : AreItems nest schedule c items
  pub fails : FailsAtPoint items c.proofs n
