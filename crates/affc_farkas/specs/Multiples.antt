-- Sums of multiples of rows.
use Rattle.std.specs.Prelude.{ℕ, ◌^◌, ◌<◌, ◌≤◌, List, [], ◌∷◌, ◌++◌, length, replicate, slice_index_or, ℤ, pos}
use Rattle.std.specs.List.{All}
use Rattle.affc_rows.specs.Forms.{Affine, mixed_form}

-- the row that is 0 everywhere
abbrev pub zero_row : ℕ → Affine
zero_row columns = record { coefs = replicate columns (pos 0); constant = pos 0 }

-- the row with this number
abbrev pub row_at : ℕ → List Affine → ℕ → Affine
row_at columns rows number = slice_index_or rows number (zero_row columns)

-- the sum of the multiples of these rows, each given by its number and its multiplier
abbrev pub multiple_sum : ℕ → List Affine → List (ℕ × ℕ) → Affine
multiple_sum columns rows [] = zero_row columns
multiple_sum columns rows (p ∷ ps) = mixed_form (pos p.1) (row_at columns rows p.0) (pos 1) (multiple_sum columns rows ps)

-- the entry at a place: a coefficient, or after them the constant
abbrev pub entry_of : Affine → ℕ → ℤ
entry_of row j = slice_index_or (row.coefs ++ row.constant ∷ []) j (pos 0)

-- each row number is above those before it
abbrev pub IsRising : List (ℕ × ℕ) → Type 0
IsRising [] = Unit {0}
IsRising (p ∷ ps) = All (λ q. p.0 < q.0) ps × IsRising ps

-- row numbers in increasing order with multipliers from 1 to 2^53, at most 1,024 of them
pub record AreMultipliers (by : List (ℕ × ℕ)) : Type 0 where
  pub few : length by ≤ 1024
  pub positive : All (λ p. 1 ≤ p.1) by
  pub small : All (λ p. p.1 ≤ 2 ^ 53) by
  pub rising : IsRising by
