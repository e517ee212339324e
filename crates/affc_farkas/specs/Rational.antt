-- Rational points: whole numbers with one divisor.
use Rattle.std.specs.Prelude.{◌≡◌, ℕ, List, length, ℤ, pos, ◌+ℤ◌, ◌*ℤ◌, ◌≤ℤ◌}
use Rattle.std.specs.List.{All}
use Rattle.affc_rows.specs.Forms.{Affine, dot}

-- d times the value of a row at the point x / d
abbrev pub scaled_value : Affine → List ℤ → ℤ → ℤ
scaled_value row x d = dot row.coefs x +ℤ (d *ℤ row.constant)

-- a rational point at which every row is at least 0
pub record RationalPoint (columns : ℕ) (rows : List Affine) : Type 0 where
  pub x : List ℤ
  pub d : ℤ
  pub width : length x ≡ columns
  pub divisor : pos 1 ≤ℤ d
  pub meets : All (λ row. pos 0 ≤ℤ scaled_value row x d) rows
