-- What clash systems are asked of.
use Rattle.std.specs.Prelude.{◌≡◌, ℕ, suc, ◌+◌, ◌^◌, ◌<◌, ◌≤◌, ℤ, pos, ◌≤ℤ◌, IsTrue, List, [], ◌∷◌, length, Some, slice_get}
use Rattle.std.specs.List.{All}
use Rattle.affc_rows.specs.Forms.{Affine}
use Rattle.affc_rows.specs.Sizes.{IsWithin}
use Rattle.affc_trace.specs.Law.{IsIn}
use Rattle.affc_nest.specs.Asked.{IsNest}
use Rattle.affc_nest.specs.declared.nest.Entry.{Entry}
use Rattle.affc_nest.specs.declared.nest.Nest.{Nest}
use Rattle.affc_nest.specs.Parts.{coordinates}
use Rattle.affc_order.specs.Placed.{IsPlaced}
use Rattle.affc_order.specs.Posed.{Posed}
use Rattle.affc_quast.specs.Leaves.{Leaf}
use Rattle.affc_quast.specs.Limits.{Shaped, FitsTree, widest}
use Rattle.affc_quast.specs.Sources.{loads_in, tree_of}
use Rattle.affc_quast.specs.Trees.{Tree, Test, Div, Source, Input, depth_of}

-- ---- Trees

-- the part has an entry, and there is a form for each of its coordinates
pub record IsNamed (nest : Nest) (part : ℕ) (forms : List Affine) : Type 0 where
  pub entry : Entry
  pub there : slice_get nest.entries part ≡ Some entry
  pub each : length forms ≡ coordinates entry

-- each instance that the tree names is of such a part
abbrev pub NamesParts : Nest → Tree → Type 0
NamesParts nest (Test f on off) = NamesParts nest on × NamesParts nest off
NamesParts nest (Div f by rest) = NamesParts nest rest
NamesParts nest (Source s forms) = IsNamed nest s forms
NamesParts nest Input = Unit {0}

-- a tree over so many columns within the widest limits, whose paths have at most 400 tests and divisions
pub record KeepsLimits (nest : Nest) (columns : ℕ) (tree : Tree) : Type 0 where
  pub shaped : Shaped columns tree
  pub named : NamesParts nest tree
  pub fits : FitsTree widest tree
  pub short : depth_of tree ≤ 400

-- each tree of a load does, over the parameters and the coordinates of its part
abbrev pub KeepLimits : Nest → List Tree → Type 0
KeepLimits nest trees = (part load : ℕ) (e : Entry) (tree : Tree) → slice_get nest.entries part ≡ Some e → load < loads_in e → tree_of nest trees part load ≡ Some tree
    → KeepsLimits nest (length nest.params + coordinates e) tree

-- ---- Forms

-- a form over so many columns within the limits of a tree's
abbrev pub IsLight : (columns : ℕ) → Affine → Type 0
IsLight columns = IsWithin columns (2 ^ 24) (2 ^ 50)

-- ---- Leaves

-- each form is over the columns where it is divided, the first of them over so many
abbrev pub AreDivisions : (columns : ℕ) → List (Affine × ℤ) → Type 0
AreDivisions columns [] = Unit {0}
AreDivisions columns (d ∷ ds) = IsLight columns d.0 × (pos 1 ≤ℤ d.1) × AreDivisions (suc columns) ds

-- the instance that a leaf names is by a form for each coordinate of its part, within the limits of rows
pub record IsPath (nest : Nest) (columns : ℕ) (leaf : Leaf) : Type 0 where
  pub count : leaf.columns ≡ columns + length leaf.divisions
  pub few : length leaf.divisions ≤ 400
  pub rows : All (λ r. length r.coefs ≤ leaf.columns) leaf.rows
  pub divisions : AreDivisions columns leaf.divisions
  pub named : (a : Posed) → leaf.named ≡ Some a → IsPlaced nest leaf.columns a

-- a part of a nest that can have instances
pub record IsLiving (nest : Nest) (e : Entry) : Type 0 where
  pub there : IsIn e nest.entries
  pub alive : IsTrue e.alive

-- rows over the columns of the first part and perhaps more, and the second part beside them
pub record StandBeside (nest : Nest) (reader : Entry) (leaf : Leaf) (writer : Entry) : Type 0 where
  pub nested : IsNest nest
  pub reads : IsLiving nest reader
  pub first : length nest.params + coordinates reader ≤ leaf.columns
  pub few : leaf.columns ≤ 410
  pub rows : All (λ r. length r.coefs ≤ leaf.columns) leaf.rows
  pub writes : IsLiving nest writer

-- a leaf of a load of the first part, and a store by the second
pub record AreSeated (nest : Nest) (reader : Entry) (leaf : Leaf) (writer : Entry) : Type 0 where
  pub nested : IsNest nest
  pub reads : IsLiving nest reader
  pub path : IsPath nest (length nest.params + coordinates reader) leaf
  pub writes : IsLiving nest writer

-- ---- Loads

-- the trees of a part's loads, those of later parts behind, keep the limits
abbrev pub AreLoads : Nest → Entry → List Tree → Type 0
AreLoads nest e trees = (load : ℕ) (tree : Tree) → load < loads_in e → slice_get trees load ≡ Some tree → KeepsLimits nest (length nest.params + coordinates e) tree
