-- The arrays that a run begins with.
use Rattle.std.specs.Prelude.{Vec, ◌≡◌, ℕ, ℤ, List, [], ◌∷◌, ◌++◌, length, map, Result, Ok, Err}
use Rattle.std.specs.declared.alloc.Global.{Global}
use Rattle.affc_ast.specs.declared.tree.Instance.{Instance}
use Rattle.affc_ast.specs.Cause.{Cause}
use Rattle.affc_interp.specs.declared.fault.Halt.{Halt}
use Rattle.affc_interp.specs.declared.fault.Halt.TheVariants as halt
use Rattle.affc_interp.specs.Layout.{Held, AreLengths, subscripts_of, given_to, start_of}
use Rattle.affc_interp.specs.Seen.{cause_at}

-- it stops as what was read says; no step was begun
abbrev pub StopsAs : {A : Type 0} → Halt → Result A Cause → Type 0
StopsAs (halt.Fault f) r = (here : Instance) → r ≡ Err (cause_at here f)
StopsAs halt.Steps r = ⊥
StopsAs halt.Memory r = Unit {0}

abbrev pub AreExtents : Result (Vec ℤ Global) Halt → Result (List ℤ) Cause → Type 0
AreExtents (Ok ns) r = (r ≡ Ok ns.items) × AreLengths ns.items
AreExtents (Err h) r = StopsAs h r

-- one array more, with these values
abbrev pub Declared : Result (Unit {0}) Halt → Held → Held → List ℕ → Result (List ℤ) Cause → Type 0
Declared (Ok u) old new vs r = (ns : List ℤ) × (r ≡ Ok ns) × (new.extents ≡ old.extents ++ ns ∷ []) × (new.store ≡ old.store ++ given_to (length old.extents) (subscripts_of ns) vs)
Declared (Err h) old new vs r = StopsAs h r

-- several, with the values of each
abbrev pub AllDeclared : Result (Unit {0}) Halt → Held → Held → List (List ℕ) → Result (List (List ℤ)) Cause → Type 0
AllDeclared (Ok u) old new vss r = (es : List (List ℤ)) × (r ≡ Ok es) × (new.extents ≡ old.extents ++ es) × (new.store ≡ old.store ++ start_of (length old.extents) es vss)
AllDeclared (Err h) old new vss r = StopsAs h r

-- the numbers in each of these lists
abbrev pub values_in : List (Vec ℕ Global) → List (List ℕ)
values_in arrays = map (λ v. v.items) arrays
