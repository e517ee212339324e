-- What a part of a box says of a system: a proof below all rows in which the part's bounds stand, or a least point.
use Rattle.std.specs.Prelude.{◌≡◌, ℕ, ◌+◌, ◌-◌, ◌^◌, ◌<◌, ◌≤◌, List, [], ◌∷◌, length, map, ℤ, neg_ℤ}
use Rattle.std.specs.List.{All}
use Rattle.affc_rows.specs.Forms.{Affine}
use Rattle.affc_system.specs.Systems.{Rows, IsRow, IsPoint}
use Rattle.affc_farkas.specs.Multiples.{row_at}
use Rattle.affc_farkas.specs.Proofs.{IsValid}
use Rattle.affc_farkas.specs.declared.proof.Proof.{Proof}
use Rattle.affc_simplex.specs.declared.bounds.Bound.{Bound}
use Rattle.affc_leaf.specs.Points.{IsLeastPoint}
use Rattle.affc_leaf.specs.Boxed.{unit, SplitsAtZero}
use Rattle.affc_leaf.specs.Bounds.{IsBound, Inside, Fuel, bound_at, ranges_of}

-- the rows with the bound's numbers say the bound
pub record PlacedBound (columns : ℕ) (rows : List Affine) (j : ℕ) (b : Bound) : Type 0 where
  pub low_there : b.low_row < length rows
  pub low_coefs : (row_at columns rows b.low_row).coefs ≡ unit j (columns - (j + 1))
  pub low_constant : (row_at columns rows b.low_row).constant ≡ neg_ℤ b.low
  pub high_there : b.high_row < length rows
  pub high_coefs : (row_at columns rows b.high_row).coefs ≡ map neg_ℤ (unit j (columns - (j + 1)))
  pub high_constant : (row_at columns rows b.high_row).constant ≡ b.high

-- rows that begin with those of the system, in which the bounds stand
pub record Placed (system : Rows) (rows : List Affine) (next : ℕ) (bounds : List Bound) : Type 0 where
  pub count : length rows ≡ next
  pub fit : All (IsRow system.columns) rows
  pub longer : length system.rows ≤ length rows
  pub own : (i : ℕ) → i < length system.rows → row_at system.columns rows i ≡ row_at system.columns system.rows i
  pub bounded : (j : ℕ) → j < length bounds → PlacedBound system.columns rows j (bound_at bounds j)

-- no point of the system lies in the box
abbrev pub NoneIn : Rows → List Bound → Type 0
NoneIn system bounds = (x : List ℤ) → Inside bounds x → IsPoint system x → ⊥

-- the least point of the system in the box
abbrev pub IsLeast : Rows → List Bound → List ℤ → Type 0
IsLeast system bounds x = IsLeastPoint system (ranges_of bounds) x

-- no point, and a proof of it below all rows in which the bounds stand
pub record IsEmpty (system : Rows) (bounds : List Bound) (next : ℕ) (proof : Proof) : Type 0 where
  pub none : NoneIn system bounds
  pub valid : (rows : List Affine) → Placed system rows next bounds → IsValid system.columns proof rows
  pub plain : SplitsAtZero proof

-- what the search wants of its box
pub record Ready (columns : ℕ) (bounds : List Bound) (next left : ℕ) : Type 0 where
  pub width : length bounds ≡ columns
  pub ranges : All IsBound bounds
  pub fuel : Fuel left bounds
  pub room : next + left < 2 ^ 32

-- the bounds of a box, where its rows have the numbers from n on
abbrev pub box_bounds : ℕ → List (ℤ × ℤ) → List Bound
box_bounds n [] = []
box_bounds n (r ∷ rs) = record { low = r.0; high = r.1; low_row = n; high_row = n + 1 } ∷ box_bounds (n + 2) rs
