-- What the search for the tree of a load says of a part of the box of its parameters and iterators.
use Rattle.std.specs.Prelude.{◌≡◌, ℕ, ◌+◌, ◌-◌, ◌^◌, ◌<◌, ◌≤◌, ℤ, ◌-ℤ◌, unsigned_abs, List, [], ◌∷◌, ◌++◌, map, length, Some, slice_get}
use Rattle.std.specs.List.{All}
use Rattle.affc_system.specs.Boxes.{InBox, pin}
use Rattle.affc_ast.specs.declared.tree.Program.{Program}
use Rattle.affc_nest.specs.declared.nest.Access.{Access}
use Rattle.affc_nest.specs.declared.nest.Entry.{Entry}
use Rattle.affc_nest.specs.declared.nest.Nest.{Nest}
use Rattle.affc_nest.specs.Parts.{coordinates}
use Rattle.affc_nest.specs.Nests.{nest_of}
use Rattle.affc_quast.specs.Limits.{narrow, IsTreeWithin}
use Rattle.affc_quast.specs.Paths.{IsNear}
use Rattle.affc_quast.specs.Sources.{loads_in}
use Rattle.affc_quast.specs.Trees.{Tree, named_at, quotients_at}
use Rattle.affc_sched.specs.Touched.{IsTouched}
use Rattle.affc_flow.specs.Laws.{Loads, IsSourceOf}
use Rattle.affc_latest.specs.Stores.{IsNamedNest}

-- what is to be said at one instance
pub record IsRightAt (program : Program) (p iterators : List ℤ) (e : Entry) (x : Access) (tree : Tree) : Type 0 where
  pub source : IsSourceOf program p iterators e x (named_at tree (p ++ iterators))
  pub near : All IsNear (quotients_at tree (p ++ iterators))

-- a tree within the limits, with so many tests and divisions above a leaf at most, that names the source of the load at each
-- instance in the ranges
pub record Covers (nest : Nest) (e : Entry) (x : Access) (ranges : List (ℤ × ℤ)) (left : ℕ) (tree : Tree) : Type 0 where
  pub right : (program : Program) (p iterators : List ℤ) → nest ≡ nest_of program → Loads program p iterators e x → InBox ranges (p ++ iterators) → IsRightAt program p iterators e x tree
  pub within : IsTreeWithin narrow left 12 nest x.array.0 (length nest.params + coordinates e) tree

-- ---- Parts of a box

-- the first columns have these values, the next one this range, and the others theirs
abbrev pub part_box : (point : List ℤ) → (low high : ℤ) → List (ℤ × ℤ) → List (ℤ × ℤ)
part_box point low high rest = map pin point ++ (low, high) ∷ rest

-- exponents of 2 above the ranges' lengths, whose sum is at most n: after so many halvings one point is left
abbrev pub Fuel : ℕ → List (ℤ × ℤ) → Type 0
Fuel n [] = Unit {0}
Fuel n (r ∷ rs) = (e : ℕ) × (unsigned_abs (r.1 -ℤ r.0) < 2 ^ e) × (e ≤ n) × Fuel (n - e) rs

-- within 2^40, the limit of a tree's constants
abbrev pub IsSlight : ℤ → Type 0
IsSlight x = unsigned_abs x ≤ 2 ^ 40

abbrev pub IsSlightRange : ℤ × ℤ → Type 0
IsSlightRange r = IsSlight r.0 × IsSlight r.1

-- ---- What is searched

-- a load of a part that can have instances, by its number among the part's loads
pub record IsLoad (nest : Nest) (e : Entry) (x : Access) (number : ℕ) : Type 0 where
  pub nested : IsNamedNest nest
  pub touched : IsTouched nest e x
  pub there : slice_get e.accesses number ≡ Some x
  pub load : number < loads_in e
