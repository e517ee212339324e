-- How folds are taken from a list, one after the other.
use Rattle.std.specs.Prelude.{◌≡◌, ◌⊎◌, List, [], ◌∷◌, ◌++◌, reverse}
use Rattle.affc_ast.specs.declared.tree.ArrayId.{ArrayId}
use Rattle.affc_basis.specs.declared.fold.Fold.{Fold}
use Rattle.affc_split.specs.Budgets.{Account}
use Rattle.affc_moduli.specs.Ended.{IsSpent}
use Rattle.affc_certify.specs.Left.{AreLeft}

-- those that stand before the ones which are left, from the last to the first, are taken, and these of them are kept
pub record AreTaken (folds : List (ArrayId × Fold)) (budget : Account) (left kept : List (ArrayId × Fold)) : Type 0 where
  pub taken : List (ArrayId × Fold)
  pub split : folds ≡ taken ++ reverse left
  pub are : AreLeft budget taken kept

-- one is kept, or left out because no unit is left
abbrev pub IsPut : (budget : Account) → ArrayId × Fold → (old new : List (ArrayId × Fold)) → Type 0
IsPut budget fold old new = (new ≡ old ++ fold ∷ []) ⊎ ((new ≡ old) × IsSpent budget)

-- what was so before is so with these
abbrev pub KeepTaken : (before after : Account) → (left left' kept kept' : List (ArrayId × Fold)) → Type 0
KeepTaken before after left left' kept kept' = (folds : List (ArrayId × Fold)) → AreTaken folds before left kept → AreTaken folds after left' kept'

-- the last ones of a list, turned round; these are left
pub record AreTurned (folds left turned : List (ArrayId × Fold)) : Type 0 where
  pub behind : List (ArrayId × Fold)
  pub split : folds ≡ left ++ behind
  pub are : turned ≡ reverse behind
