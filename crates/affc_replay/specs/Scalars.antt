-- Empty folds that are put behind others.
use Rattle.std.specs.Prelude.{◌≡◌, ℕ, Bool, true, false, List, [], ◌∷◌, ◌++◌}
use Rattle.affc_ast.specs.declared.tree.ArrayId.{ArrayId}
use Rattle.affc_basis.specs.declared.fold.Fold.{Fold}
use Rattle.affc_nest.specs.declared.nest.ArrayInfo.{ArrayInfo}
use Rattle.affc_replay.specs.Folds.{scalars_from, AreEmptyFolds}

-- those of these arrays, from this number on
pub record HasScalars (first : ℕ) (arrays : List ArrayInfo) (old new : List (ArrayId × Fold)) : Type 0 where
  pub scalars : List (ArrayId × Fold)
  pub are_empty : AreEmptyFolds (scalars_from first arrays) scalars
  pub put : new ≡ old ++ scalars

-- one fold, if a test holds
abbrev pub scalar_if : Bool → (array : ℕ) → Fold → List (ArrayId × Fold)
scalar_if true n fold = (record { 0 = n }, fold) ∷ []
scalar_if false n fold = []
