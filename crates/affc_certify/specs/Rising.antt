-- Folds in order of their arrays.
use Rattle.std.specs.Prelude.{ℕ, suc, ◌≤◌, List, [], ◌∷◌, ◌++◌}
use Rattle.affc_ast.specs.declared.tree.ArrayId.{ArrayId}
use Rattle.affc_basis.specs.declared.fold.Fold.{Fold}

-- each is of an array behind those before it, the first one of an array from number n on
abbrev pub AreFrom : (n : ℕ) → List (ArrayId × Fold) → Type 0
AreFrom n [] = Unit {0}
AreFrom n (f ∷ fs) = (n ≤ f.0.0) × AreFrom (suc f.0.0) fs

-- before those from `end` on, these are from n on
abbrev pub Continues : (n : ℕ) → List (ArrayId × Fold) → (end : ℕ) → Type 0
Continues n fs end = (rest : List (ArrayId × Fold)) → AreFrom end rest → AreFrom n (fs ++ rest)
