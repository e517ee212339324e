-- The folds of which some were left out because the budget ended.
use Rattle.std.specs.Prelude.{◌≡◌, ◌⊎◌, List, [], ◌∷◌}
use Rattle.affc_ast.specs.declared.tree.ArrayId.{ArrayId}
use Rattle.affc_basis.specs.declared.fold.Fold.{Fold}
use Rattle.affc_split.specs.Budgets.{Account}
use Rattle.affc_moduli.specs.Ended.{IsSpent}

-- the first list is the second one without some of its elements
abbrev pub IsPart : {A : Type 0} → List A → List A → Type 0
IsPart [] [] = Unit {0}
IsPart (x ∷ xs) [] = ⊥
IsPart [] (y ∷ ys) = Unit {0}
IsPart (x ∷ xs) (y ∷ ys) = ((x ≡ y) × IsPart xs ys) ⊎ IsPart (x ∷ xs) ys

-- the folds without some, and with all of them unless no unit is left
pub record AreLeft (budget : Account) (folds kept : List (ArrayId × Fold)) : Type 0 where
  pub part : IsPart kept folds
  pub all : (kept ≡ folds) ⊎ IsSpent budget
