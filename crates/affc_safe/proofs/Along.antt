-- What a run of a source reads on the way to a statement, and at it.
use Rattle.std.specs.Prelude.{◌≡◌, ℕ, ℤ, true, int_le, List, [], ◌∷◌, ◌++◌, Ok}
use Rattle.affc_ast.specs.declared.tree.Cond.{Cond}
use Rattle.affc_ast.specs.declared.tree.Instance.{Instance}
use Rattle.affc_ast.specs.declared.tree.Ix.{Ix}
use Rattle.affc_ast.specs.Conditions.{condition}
use Rattle.affc_ast.specs.Fits.{whole, is_true_at}
use Rattle.affc_ast.specs.Index.{index_value}
use Rattle.affc_ast.specs.Meaning.{assigned}
use Rattle.affc_ast.specs.Store.{Element, Store}
use Rattle.affc_ast.specs.Trace.{Assignment}
use Rattle.affc_ast.specs.Values.{Scope}
use Rattle.affc_domain.specs.Rounds.{Round, Loop, Test, goes_on, turns}

-- it is read, at some node
abbrev pub IsRead : Ix → List ℤ → Type 0
IsRead e names = (node : ℕ) × (index_value e node names ≡ Ok (whole e names))

-- the condition is read as it is true or false, at some node
abbrev pub IsReadCond : Cond → List ℤ → Type 0
IsReadCond cond names = (node : ℕ) × (condition cond node names ≡ Ok (is_true_at cond names))

-- each bound and condition is read that is come to
abbrev pub ReadAlong : List Round → List ℤ → List ℤ → Type 0
ReadAlong [] names xs = Unit {0}
ReadAlong (Loop iter low rel high ∷ rs) names [] = Unit {0}
ReadAlong (Loop iter low rel high ∷ rs) names (x ∷ xs) =
    IsRead low names × IsRead high names
    × (int_le (whole low names) x ≡ true → goes_on rel x (whole high names) ≡ true → ReadAlong rs (names ++ x ∷ []) xs)
ReadAlong (Test cond ∷ rs) names xs = IsReadCond cond names × (is_true_at cond names ≡ true → ReadAlong rs names xs)

-- the assignment is done somewhere
pub record IsDone (a : Assignment) (names : List ℤ) (extents : List (List ℤ)) : Type 0 where
  pub node : ℕ
  pub scope : Scope
  pub store : Store
  pub here : Instance
  pub stored : Element × ℕ
  pub its_names : scope.names ≡ names
  pub its_extents : scope.extents ≡ extents
  pub is_done : assigned a.op a.array a.subs a.value node scope store here ≡ Ok stored

-- what is read on the way, and the assignment is done where the way leads to it
pub record Comes (rs : List Round) (a : Assignment) (names xs : List ℤ) (extents : List (List ℤ)) : Type 0 where
  pub along : ReadAlong rs names xs
  pub done : turns rs names xs ≡ true → IsDone a (names ++ xs) extents
