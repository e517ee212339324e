-- What is known of the moduli of the first rows.
use Rattle.std.specs.Prelude.{◌≡◌, ℕ, ℤ, pos, List, slice_get, replicate, Some}
use Rattle.affc_rows.specs.Forms.{Affine}
use Rattle.affc_system.specs.Systems.{Rows}
use Rattle.affc_system.specs.declared.pairs.PairSystem.{PairSystem}
use Rattle.affc_basis.specs.declared.fold.Mark.TheVariants.{Bound}
use Rattle.affc_basis.specs.declared.fold.Modulus.{Modulus}
use Rattle.affc_basis.specs.Folds.{IsEnough, IsTrueMark}
use Rattle.affc_system.specs.ElementPairs.{IsPairOf}
use Rattle.affc_conflicts.specs.Conditions.{InContext}
use Rattle.affc_basis.specs.Moduli.{IsModulus}
use Rattle.affc_split.specs.Budgets.{Account}
use Rattle.affc_moduli.specs.Ended.{IsSpent}

-- a modulus that is enough for its row and has a true mark
pub record IsDone (context : Rows) (ranges : List (ℤ × ℤ)) (systems : List PairSystem) (rows : List Affine) (k : ℕ) (row : Affine) (m : Modulus) : Type 0 where
  pub limits : IsModulus context.columns m.form
  pub enough : IsEnough (InContext context ranges) (IsPairOf systems) rows k row m.form
  pub mark : IsTrueMark (InContext context ranges) (IsPairOf systems) rows k row m
  pub marked : m.mark ≡ Bound → ⊥

-- a modulus that is enough for its row, whose mark is true; without a mark it is a constant
pub record IsKept (context : Rows) (ranges : List (ℤ × ℤ)) (systems : List PairSystem) (rows : List Affine) (k : ℕ) (row : Affine) (m : Modulus) : Type 0 where
  pub limits : IsModulus context.columns m.form
  pub enough : IsEnough (InContext context ranges) (IsPairOf systems) rows k row m.form
  pub mark : IsTrueMark (InContext context ranges) (IsPairOf systems) rows k row m
  pub flat : m.mark ≡ Bound → m.form.coefs ≡ replicate context.columns (pos 0)

-- so are the moduli of the first rows
abbrev pub AreKept : Rows → List (ℤ × ℤ) → List PairSystem → List Affine → List Modulus → Type 0
AreKept context ranges systems rows ms = (k : ℕ) (row : Affine) (m : Modulus) → slice_get rows k ≡ Some row → slice_get ms k ≡ Some m → IsKept context ranges systems rows k row m

-- a modulus is without a mark only where no unit is left
abbrev pub AreMarkedOr : Account → List Modulus → Type 0
AreMarkedOr budget ms = (k : ℕ) (m : Modulus) → slice_get ms k ≡ Some m → m.mark ≡ Bound → IsSpent budget
