-- What the search through the parts of a box says of each of them.
use Rattle.std.specs.Prelude.{◌≡◌, ℕ, ◌+◌, ◌^◌, ◌<◌, ◌≤◌, List, length, ℤ, pos, ◌+ℤ◌, ◌-ℤ◌, ◌≤ℤ◌, ◌<ℤ◌}
use Rattle.affc_system.specs.Systems.{Rows}
use Rattle.affc_simplex.specs.declared.bounds.Bound.{Bound}
use Rattle.affc_leaf.specs.Bounds.{bound_at, lowered, raised}
use Rattle.affc_leaf.specs.Parts.{IsLeast, IsEmpty, Ready}
use Rattle.affc_split.specs.declared.search.Found.{Found}
use Rattle.affc_split.specs.declared.search.Found.TheVariants.{Empty, Point}
use Rattle.affc_split.specs.declared.search.Here.{Here}
use Rattle.affc_split.specs.declared.search.Split.{Split}
use Rattle.affc_split.specs.declared.search.Side.{Side}
use Rattle.affc_split.specs.declared.search.Side.TheVariants.{Low, High}
use Rattle.affc_split.specs.declared.search.Trim.{Trim}

-- what is found in the box: a proof that it has no point, or its least one
abbrev pub IsFound : Rows → List Bound → ℕ → Found → Type 0
IsFound system bounds next (Empty p) = IsEmpty system bounds next p.value
IsFound system bounds next (Point x) = IsLeast system bounds x.items

-- the box can be halved until it is one point, and the numbers of the rows below it fit
pub record IsReady (here : Here) : Type 0 where
  pub box : Ready here.system.now.columns here.bounds.now here.next here.left
  pub room : (here.next + here.left) + here.spare < 2 ^ 32

-- each side of the split has a value of the column
pub record IsSplit (bounds : List Bound) (split : Split) : Type 0 where
  pub there : split.column < length bounds
  pub low_in : (bound_at bounds split.column).low ≤ℤ split.at
  pub high_in : split.at <ℤ (bound_at bounds split.column).high

-- no side is more than half of the column, the lower one rounded up
pub record IsEven (bound : Bound) (at : ℤ) : Type 0 where
  pub low_half : ((at -ℤ bound.low) +ℤ (at -ℤ bound.low)) ≤ℤ (bound.high -ℤ bound.low)
  pub high_half : ((bound.high -ℤ at) +ℤ (bound.high -ℤ at)) ≤ℤ ((bound.high -ℤ bound.low) +ℤ pos 1)

-- the part of a box on one side of a split, whose row has this number
abbrev pub part_of : Side → List Bound → Split → ℕ → List Bound
part_of Low bounds split row = lowered bounds split.column split.at row
part_of High bounds split row = raised bounds split.column split.at row

abbrev pub other_side : Side → Side
other_side Low = High
other_side High = Low

-- one side of a split has no point, and the rest is the other one
pub record IsTrim (here : Here) (trim : Trim) : Type 0 where
  pub split : IsSplit here.bounds.now trim.split
  pub spare : 1 ≤ here.spare
  pub empty : IsEmpty here.system.now (part_of trim.side here.bounds.now trim.split here.next) (here.next + 1) trim.proof.value
  pub rest : trim.rest.items ≡ part_of (other_side trim.side) here.bounds.now trim.split here.next
  pub ready : Ready here.system.now.columns trim.rest.items (here.next + 1) here.left
