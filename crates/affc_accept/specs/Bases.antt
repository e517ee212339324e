-- When the folds of a certificate have the bases that a plan gives.
use Rattle.std.specs.Prelude.{◌≡◌, ◌⊎◌, ℕ, List, length, map, Option, Some, None, slice_get}
use Rattle.affc_ast.specs.declared.tree.ArrayId.{ArrayId}
use Rattle.affc_trace.specs.Inverses.{columns_from}
use Rattle.affc_trace.specs.Law.{IsIn}
use Rattle.affc_basis.specs.declared.basis.Basis.{Basis}
use Rattle.affc_basis.specs.Listed.{Shape, shape_of, columns}
use Rattle.affc_nest.specs.declared.nest.ArrayInfo.{ArrayInfo}
use Rattle.affc_nest.specs.declared.nest.Nest.{Nest}
use Rattle.affc_life.specs.Folding.{given_for}
use Rattle.affc_certvalue.specs.declared.fold.fold.CertFold.{CertFold}

-- the unit rows, which undo themselves
abbrev pub identity : (dimensions : ℕ) → Shape
identity n = columns (columns_from n 0 n)

-- The fold is that of an array left whole: the identity, with the array's extents as moduli.
pub record IsWhole (nest : Nest) (c : CertFold) : Type 0 where
  pub info : ArrayInfo
  pub declared : slice_get nest.arrays c.array.0 ≡ Some info
  pub unit : shape_of c.basis ≡ identity (length c.basis.rows)
  pub moduli : map (λ m. m.form) c.moduli ≡ info.extents

-- where a basis is given, the fold has it, or is that of an array left whole
abbrev pub HasBasis : Option Shape → Nest → CertFold → Type 0
HasBasis None nest c = Unit {0}
HasBasis (Some shape) nest c = (shape_of c.basis ≡ shape) ⊎ IsWhole nest c

abbrev pub KeepsBasis : Nest → (bases : List (ArrayId × Basis)) → CertFold → Type 0
KeepsBasis nest bases c = HasBasis (given_for bases c.array.0 (length c.basis.rows)) nest c

-- each of the folds does
abbrev pub KeepBases : Nest → (bases : List (ArrayId × Basis)) → List CertFold → Type 0
KeepBases nest bases cs = (c : CertFold) → IsIn c cs → KeepsBasis nest bases c

-- it doesn't
abbrev pub HasOther : Nest → (bases : List (ArrayId × Basis)) → CertFold → Type 0
HasOther nest bases c = ¬ (KeepsBasis nest bases c)
