-- The front of a box: what is left of it where no point of a system comes before, column by column.
use Rattle.std.specs.Prelude.{◌≡◌, ℕ, ◌<◌, List, length, slice_set, ℤ, ◌⊎◌}
use Rattle.std.specs.List.{All}
use Rattle.affc_system.specs.Systems.{Rows, IsPoint}
use Rattle.affc_system.specs.Order.{LexLe}
use Rattle.affc_simplex.specs.declared.bounds.Bound.{Bound}
use Rattle.affc_leaf.specs.Bounds.{IsBound, Inside, bound_at}

-- a part of a box: each point of the system in the box is in the part, or comes behind all that is in the part
pub record IsFront (system : Rows) (bounds part : List Bound) : Type 0 where
  pub within : (x : List ℤ) → Inside part x → Inside bounds x
  pub first : (z : List ℤ) → Inside bounds z → IsPoint system z → Inside part z ⊎ ((x : List ℤ) → Inside part x → LexLe x z)

-- the box with one value of a column
abbrev pub pinned : List Bound → ℕ → ℤ → List Bound
pinned bounds j value = slice_set bounds j (record (bound_at bounds j) { low = value; high = value })

-- a box of this width whose first columns have one value each
pub record IsPinned (columns : ℕ) (bounds : List Bound) (j : ℕ) : Type 0 where
  pub width : length bounds ≡ columns
  pub ranges : All IsBound bounds
  pub single : (k : ℕ) → k < j → (bound_at bounds k).low ≡ (bound_at bounds k).high
