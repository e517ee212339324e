-- When a text certifies folds of a nest under a plan.
use Rattle.std.specs.Prelude.{◌≡◌, ℕ, List, length, Option, Some, None, slice_get}
use Rattle.std.specs.List.{All}
use Rattle.affc_ast.specs.declared.tree.ArrayId.{ArrayId}
use Rattle.affc_trace.specs.Law.{IsIn}
use Rattle.affc_basis.specs.declared.fold.Fold.{Fold}
use Rattle.affc_basis.specs.declared.fold.Mark.TheVariants.{Bound}
use Rattle.affc_basis.specs.Folds.{forms_of, fold_of}
use Rattle.affc_basis.specs.Listed.{shape_of}
use Rattle.affc_nest.specs.declared.nest.ArrayInfo.{ArrayInfo}
use Rattle.affc_nest.specs.declared.nest.Nest.{Nest}
use Rattle.affc_schedtext.specs.declared.plan.Plan.{Plan}
use Rattle.affc_check.specs.Valid.{questions_among}
use Rattle.affc_accept.specs.Accepted.{IsAccepted}
use Rattle.affc_accept.specs.Bases.{identity}

-- the same rows and inverse forms, and the same moduli with their marks
pub record IsSame (fold shown : Fold) : Type 0 where
  pub basis : shape_of fold.basis ≡ shape_of shown.basis
  pub moduli : fold.moduli ≡ shown.moduli

-- the fold of an array left whole: the identity, with the array's extents as moduli, of which nothing more is said
pub record IsWholeFold (nest : Nest) (array : ℕ) (shown : Fold) : Type 0 where
  pub info : ArrayInfo
  pub declared : slice_get nest.arrays array ≡ Some info
  pub unit : shape_of shown.basis ≡ identity (length shown.basis.rows)
  pub moduli : forms_of shown.moduli ≡ info.extents
  pub marks : All (λ m. m.mark ≡ Bound) shown.moduli

-- the fold of an array as it is shown; one without a fold is shown as left whole
abbrev pub IsFoldShownOf : Nest → (array : ℕ) → Option Fold → (shown : Fold) → Type 0
IsFoldShownOf nest array None shown = IsWholeFold nest array shown
IsFoldShownOf nest array (Some fold) shown = IsSame fold shown

-- what is shown of each array is its fold
abbrev pub Shows : Nest → (folds shown : List (ArrayId × Fold)) → Type 0
Shows nest folds shown = (array : ArrayId) (fold : Fold) → IsIn (array, fold) shown → IsFoldShownOf nest array.0 (fold_of folds array.0) fold

-- The text is accepted as a certificate of the nest and the plan, and it shows these folds. It has as many proofs as questions.
pub record IsCertified (nest : Nest) (plan : Plan) (text : List ℕ) (folds : List (ArrayId × Fold)) : Type 0 where
  pub shown : List (ArrayId × Fold)
  pub accepted : IsAccepted nest plan text shown
  pub shows : Shows nest folds shown
  pub each : length accepted.cert.proofs ≡ questions_among accepted.is_checked.items
