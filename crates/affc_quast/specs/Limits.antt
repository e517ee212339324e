-- The shape and the limits of trees.
use Rattle.std.specs.Prelude.{◌≡◌, ℕ, suc, ◌+◌, ◌^◌, ◌<◌, ◌≤◌, pos, ◌≤ℤ◌, unsigned_abs, IsTrue, List, length, Some, slice_get}
use Rattle.std.specs.List.{All}
use Rattle.affc_rows.specs.Forms.{Affine, HaveColumns}
use Rattle.affc_nest.specs.declared.nest.Access.{Access}
use Rattle.affc_nest.specs.declared.nest.Entry.{Entry}
use Rattle.affc_nest.specs.declared.nest.Nest.{Nest}
use Rattle.affc_nest.specs.Parts.{coordinates}
use Rattle.affc_quast.specs.Sources.{loads_in, loads_before, tree_of}
use Rattle.affc_quast.specs.Trees.{Tree, Test, Div, Source, Input, depth_of, divisions_of}

-- ---- Shape

-- each form has a coefficient for each column where it stands, and each divisor is at least 1
abbrev pub Shaped : (columns : ℕ) → Tree → Type 0
Shaped columns (Test f on off) = (length f.coefs ≡ columns) × Shaped columns on × Shaped columns off
Shaped columns (Div f by rest) = (length f.coefs ≡ columns) × (pos 1 ≤ℤ by) × Shaped (suc columns) rest
Shaped columns (Source s forms) = HaveColumns columns forms
Shaped columns Input = Unit {0}

-- A part that stores the array and can have instances, and a form for each of its coordinates. Its store is its last access.
pub record IsStoreOf (nest : Nest) (array part : ℕ) (forms : List Affine) : Type 0 where
  pub entry : Entry
  pub there : slice_get nest.entries part ≡ Some entry
  pub alive : IsTrue entry.alive
  pub store : Access
  pub is_store : slice_get entry.accesses (loads_in entry) ≡ Some store
  pub of_array : store.array.0 ≡ array
  pub each : length forms ≡ coordinates entry

-- each instance that the tree names is one of such a part
abbrev pub NamesStores : Nest → (array : ℕ) → Tree → Type 0
NamesStores nest array (Test f on off) = NamesStores nest array on × NamesStores nest array off
NamesStores nest array (Div f by rest) = NamesStores nest array rest
NamesStores nest array (Source s forms) = IsStoreOf nest array s forms
NamesStores nest array Input = Unit {0}

-- each load of a nest has a tree, over the parameters and the coordinates of its part
abbrev pub HaveShapes : Nest → List Tree → Type 0
HaveShapes nest trees = (part load : ℕ) (e : Entry) → slice_get nest.entries part ≡ Some e → load < loads_in e
    → (tree : Tree) × (tree_of nest trees part load ≡ Some tree) × Shaped (length nest.params + coordinates e) tree

-- ---- Limits

-- coefficients, divisors and constants
pub record Bounds : Type 0 where
  pub coefs : ℕ
  pub constants : ℕ

pub record FitsForm (bounds : Bounds) (form : Affine) : Type 0 where
  pub coefs_fit : All (λ c. unsigned_abs c ≤ bounds.coefs) form.coefs
  pub constant_fits : unsigned_abs form.constant ≤ bounds.constants

-- each entry keeps these bounds
abbrev pub FitsTree : Bounds → Tree → Type 0
FitsTree bounds (Test f on off) = FitsForm bounds f × FitsTree bounds on × FitsTree bounds off
FitsTree bounds (Div f by rest) = FitsForm bounds f × (by ≤ℤ pos bounds.coefs) × FitsTree bounds rest
FitsTree bounds (Source s forms) = All (FitsForm bounds) forms
FitsTree bounds Input = Unit {0}

-- what a certificate may hold, and what the search for trees gives
abbrev pub widest : Bounds
widest = record { coefs = 2 ^ 24; constants = 2 ^ 50 }

abbrev pub narrow : Bounds
narrow = record { coefs = 2 ^ 20; constants = 2 ^ 40 }

-- a tree over so many columns within these bounds, with so many tests and divisions above a leaf at most, of which so many are
-- divisions
pub record IsTreeWithin (bounds : Bounds) (depth divisions : ℕ) (nest : Nest) (array columns : ℕ) (tree : Tree) : Type 0 where
  pub shaped : Shaped columns tree
  pub stores : NamesStores nest array tree
  pub fits : FitsTree bounds tree
  pub short : depth_of tree ≤ depth
  pub few : divisions_of tree ≤ divisions

-- each load of a nest has such a tree, over the parameters and the coordinates of its part
pub record AreTreesWithin (bounds : Bounds) (depth divisions : ℕ) (nest : Nest) (trees : List Tree) : Type 0 where
  pub each : (part load : ℕ) (e : Entry) (x : Access) → slice_get nest.entries part ≡ Some e → load < loads_in e → slice_get e.accesses load ≡ Some x
      → (tree : Tree) × (tree_of nest trees part load ≡ Some tree) × IsTreeWithin bounds depth divisions nest x.array.0 (length nest.params + coordinates e) tree
  pub no_more : length trees ≡ loads_before nest.entries (length nest.entries)
