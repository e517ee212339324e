-- The folds of a program's temporaries that a certificate shows, with those of temporaries without dimensions.
use Rattle.std.specs.Prelude.{◌≡◌, ℕ, ◌+◌, nat_eq, ℤ, ◌&&◌, if◌then◌else◌, List, [], ◌∷◌, ◌++◌, length, map, Some}
use Rattle.std.specs.List.{All}
use Rattle.affc_ast.specs.declared.tree.ArrayId.{ArrayId}
use Rattle.affc_ast.specs.declared.tree.Program.{Program}
use Rattle.affc_trace.specs.Laws.{IsInContext}
use Rattle.affc_basis.specs.declared.fold.Fold.{Fold}
use Rattle.affc_basis.specs.FoldLists.{AreFoldsIn}
use Rattle.affc_basis.specs.Folds.{Obeys, fold_of}
use Rattle.affc_nest.specs.declared.nest.ArrayInfo.{ArrayInfo}
use Rattle.affc_nest.specs.declared.nest.Nest.{Nest}
use Rattle.affc_rewrite.specs.Rewrite.{KeepLimits}
use Rattle.affc_flow.specs.Questions.{is_temp}
use Rattle.affc_life.specs.Folding.{HasTrueMarks}
use Rattle.affc_folds.specs.Folding.{IsLeftWhole}

-- the temporaries without dimensions among these arrays, which have the numbers from this one on
abbrev pub scalars_from : (first : ℕ) → List ArrayInfo → List ℕ
scalars_from first [] = []
scalars_from first (a ∷ as') = (if is_temp a.role && nat_eq (length a.extents) 0 then first ∷ [] else []) ++ scalars_from (first + 1) as'

-- the empty folds of these arrays
pub record AreEmptyFolds (arrays : List ℕ) (folds : List (ArrayId × Fold)) : Type 0 where
  pub of_arrays : map (λ (f : ArrayId × Fold). f.0.0) folds ≡ arrays
  pub empty : All (λ (f : ArrayId × Fold). f.1.basis.rows ≡ []) folds

-- the folds that are shown, and the empty ones of temporaries without dimensions
pub record AreAll (nest : Nest) (shown folds : List (ArrayId × Fold)) : Type 0 where
  pub scalars : List (ArrayId × Fold)
  pub are_scalars : AreEmptyFolds (scalars_from 0 nest.arrays) scalars
  pub both : folds ≡ shown ++ scalars

-- A fold for each temporary of a program, with moduli within the limits. Throughout the context each keeps the elements of each pair
-- of its array apart, and what its marks say of its moduli is true.
pub record FoldAll (program : Program) (pairs : ℕ → List ℤ → List ℤ → List ℤ → Type 0) (folds : List (ArrayId × Fold)) : Type 0 where
  pub in_program : AreFoldsIn program folds
  pub limits : KeepLimits program folds
  pub obeys : (p : List ℤ) → IsInContext program p → (array : ℕ) (fold : Fold) → fold_of folds array ≡ Some fold → Obeys (pairs array p) fold p
  pub marks : (array : ℕ) (fold : Fold) → fold_of folds array ≡ Some fold → HasTrueMarks (IsInContext program) (pairs array) fold
  pub all : ¬ (IsLeftWhole program folds)
