-- A fold of a temporary: the basis that is given for it, and what a fold is.
use Rattle.std.specs.Prelude.{◌≡◌, ℕ, nat_eq, ℤ, ◌&&◌, if◌then◌else◌, List, [], ◌∷◌, length, Option, Some, None, slice_get}
use Rattle.affc_rows.specs.Forms.{Affine}
use Rattle.affc_ast.specs.declared.tree.ArrayId.{ArrayId}
use Rattle.affc_ast.specs.declared.tree.Program.{Program}
use Rattle.affc_trace.specs.Laws.{IsInContext}
use Rattle.affc_trace.specs.Target.{numbers_in}
use Rattle.affc_basis.specs.declared.basis.Basis.{Basis}
use Rattle.affc_basis.specs.declared.fold.Fold.{Fold}
use Rattle.affc_basis.specs.declared.fold.Modulus.{Modulus}
use Rattle.affc_basis.specs.FoldLists.{IsFoldIn}
use Rattle.affc_basis.specs.Folds.{KeepsLimits, Obeys, IsTrueMark}
use Rattle.affc_basis.specs.Listed.{Shape, shape_of}

-- ---- Bases

-- the basis that is given for an array: the first of its pairs with a row for each dimension
abbrev pub given_for : List (ArrayId × Basis) → (array dimensions : ℕ) → Option Shape
given_for [] array dimensions = None
given_for (b ∷ bs) array dimensions = if nat_eq b.0.0 array && nat_eq (length b.1.rows) dimensions then Some (shape_of b.1) else given_for bs array dimensions

-- ---- Folds

-- the mark of each modulus is true
abbrev pub HasTrueMarks : (InContext : List ℤ → Type 0) (pairs : List ℤ → List ℤ → List ℤ → Type 0) → Fold → Type 0
HasTrueMarks InContext pairs fold =
    (k : ℕ) (row : Affine) (m : Modulus) → slice_get fold.basis.rows k ≡ Some row → slice_get fold.moduli k ≡ Some m → IsTrueMark InContext pairs fold.basis.rows k row m

-- A fold of a temporary. Throughout the context it keeps the elements of each pair of the array apart, and what its marks say of
-- its moduli is true.
pub record IsFoldFor (program : Program) (pairs : ℕ → List ℤ → List ℤ → List ℤ → Type 0) (array : ℕ) (fold : Fold) : Type 0 where
  pub in_program : IsFoldIn program array fold
  pub limits : KeepsLimits (numbers_in program.params) fold
  pub obeys : (p : List ℤ) → IsInContext program p → Obeys (pairs array p) fold p
  pub marks : HasTrueMarks (IsInContext program) (pairs array) fold
