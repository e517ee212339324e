-- Boxes as the bounds of their columns, each with the numbers of the rows that say it.
use Rattle.std.specs.Prelude.{◌≡◌, ℕ, ◌-◌, ◌^◌, ◌<◌, ◌≤◌, List, [], ◌∷◌, length, slice_index_or, slice_set, ℤ, pos, negsuc, ◌+ℤ◌, ◌-ℤ◌, ◌*ℤ◌, ◌≤ℤ◌, ◌<ℤ◌, unsigned_abs, map}
use Rattle.std.specs.List.{All}
use Rattle.affc_rows.specs.Forms.{Affine}
use Rattle.affc_system.specs.Boxes.{InBox}
use Rattle.affc_leaf.specs.Points.{points}
use Rattle.affc_simplex.specs.declared.bounds.Bound.{Bound}

abbrev pub no_bound : Bound
no_bound = record { low = pos 0; high = pos 0; low_row = 0; high_row = 0 }

abbrev pub bound_at : List Bound → ℕ → Bound
bound_at bounds j = slice_index_or bounds j no_bound

-- a range within the reach
pub record IsBound (b : Bound) : Type 0 where
  pub ordered : b.low ≤ℤ b.high
  pub low_near : unsigned_abs b.low ≤ 2 ^ 60
  pub high_near : unsigned_abs b.high ≤ 2 ^ 60

abbrev pub ranges_of : List Bound → List (ℤ × ℤ)
ranges_of [] = []
ranges_of (b ∷ bs) = (b.low, b.high) ∷ ranges_of bs

-- the point lies in the box
abbrev pub Inside : List Bound → List ℤ → Type 0
Inside bs xs = InBox (ranges_of bs) xs

-- how many points the box has
abbrev pub size : List Bound → ℕ
size bs = points (ranges_of bs)

abbrev pub gap : Bound → ℕ
gap b = unsigned_abs (b.high -ℤ b.low)

-- exponents of 2 above the gaps, whose sum is at most n
abbrev pub Fuel : ℕ → List Bound → Type 0
Fuel n [] = Unit {0}
Fuel n (b ∷ bs) = (e : ℕ) × ((gap b < 2 ^ e) × (e ≤ n) × Fuel (n - e) bs)

-- the first column that isn't one value
pub record FirstFree (bounds : List Bound) (j : ℕ) : Type 0 where
  pub there : j < length bounds
  pub free : (bound_at bounds j).low <ℤ (bound_at bounds j).high
  pub before : (k : ℕ) → k < j → (bound_at bounds k).low ≡ (bound_at bounds k).high

abbrev pub AllSingle : List Bound → Type 0
AllSingle bounds = (k : ℕ) → k < length bounds → (bound_at bounds k).low ≡ (bound_at bounds k).high

-- the part at a place and below, and the part above it
abbrev pub lowered : List Bound → ℕ → ℤ → ℕ → List Bound
lowered bounds j at row = slice_set bounds j (record (bound_at bounds j) { high = at; high_row = row })

abbrev pub raised : List Bound → ℕ → ℤ → ℕ → List Bound
raised bounds j at row = slice_set bounds j (record (bound_at bounds j) { low = at +ℤ pos 1; low_row = row })

-- the greatest value of one product over a range
abbrev pub top_at : ℤ → Bound → ℤ
top_at (pos n) b = pos n *ℤ b.high
top_at (negsuc n) b = negsuc n *ℤ b.low

-- the greatest value of the products over the box
abbrev pub top : List ℤ → List Bound → ℤ
top [] bs = pos 0
top (c ∷ cs) [] = pos 0
top (c ∷ cs) (b ∷ bs) = top_at c b +ℤ top cs bs

abbrev pub top_value : Affine → List Bound → ℤ
top_value row bs = top row.coefs bs +ℤ row.constant

abbrev pub lows : List Bound → List ℤ
lows bs = map (λ b. b.low) bs

-- a sum of multiples of rows keeps these limits, so that multiples of bounds can cancel it
pub record FitsSum (row : Affine) : Type 0 where
  pub constant_fits : unsigned_abs row.constant ≤ 2 ^ 126
  pub coefs_fit : All (λ c. unsigned_abs c ≤ 2 ^ 53) row.coefs

pub record IsSum (columns : ℕ) (row : Affine) : Type 0 where
  pub width : length row.coefs ≡ columns
  pub fits : FitsSum row
