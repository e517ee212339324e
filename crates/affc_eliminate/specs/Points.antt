-- Rational points of rows: whole numbers with one divisor.
use Rattle.std.specs.Prelude.{◌≡◌, ℕ, ◌<◌, List, length, map, slice_set, ℤ, pos, neg_ℤ, ◌*ℤ◌, ◌≤ℤ◌}
use Rattle.std.specs.List.{All}
use Rattle.affc_rows.specs.Forms.{Affine}
use Rattle.affc_farkas.specs.Multiples.{entry_of}
use Rattle.affc_farkas.specs.Rational.{scaled_value}

-- every row is at least 0 at the point x / d
abbrev pub HoldAt : List ℤ → ℤ → List Affine → Type 0
HoldAt x d rows = All (λ row. pos 0 ≤ℤ scaled_value row x d) rows

-- at every rational point at which the first form is at least 0, the second is
abbrev pub Implies : Affine → Affine → Type 0
Implies f g = (x : List ℤ) (d : ℤ) → length x ≡ length f.coefs → pos 1 ≤ℤ d → pos 0 ≤ℤ scaled_value f x d → pos 0 ≤ℤ scaled_value g x d

-- all coefficients are 0, and the constant is at least 0
abbrev pub IsTrivial : Affine → Type 0
IsTrivial row = ((j : ℕ) → j < length row.coefs → entry_of row j ≡ pos 0) × (pos 0 ≤ℤ row.constant)

-- the numbers of the point x / d over the divisor s d, with y / (s d) in the column
abbrev pub with_value : ℕ → List ℤ → (s y : ℤ) → List ℤ
with_value column x s y = slice_set (map (λ c. s *ℤ c) x) column y

-- with some rational value in the column, the point x / d meets the rows
pub record Extends (column : ℕ) (x : List ℤ) (d : ℤ) (rows : List Affine) : Type 0 where
  pub s : ℤ
  pub y : ℤ
  pub divisor : pos 1 ≤ℤ s
  pub holds : HoldAt (with_value column x s y) (s *ℤ d) rows
