-- Systems of rows over the same columns, and their integer points.
use Rattle.std.specs.Prelude.{◌≡◌, ℕ, ◌^◌, ◌≤◌, List, [], ◌∷◌, length, ℤ, pos, ◌≤ℤ◌, unsigned_abs}
use Rattle.std.specs.List.{All}
use Rattle.affc_rows.specs.Forms.{Affine, value}

-- a system: its number of columns, and the rows that are to be at least 0
pub record Rows : Type 0 where
  pub columns : ℕ
  pub rows : List Affine

-- the entries keep the limits of a system's rows
pub record FitsRow (row : Affine) : Type 0 where
  pub coefs_fit : All (λ c. unsigned_abs c ≤ 2 ^ 40) row.coefs
  pub constant_fits : unsigned_abs row.constant ≤ 2 ^ 60

-- a row over so many columns, within the limits
pub record IsRow (columns : ℕ) (row : Affine) : Type 0 where
  pub width : length row.coefs ≡ columns
  pub fits : FitsRow row

-- the row is at least 0 at the point
abbrev pub Meets : List ℤ → Affine → Type 0
Meets point row = pos 0 ≤ℤ value row point

-- every row is at least 0 at the point
abbrev pub Met : List ℤ → List Affine → Type 0
Met point [] = Unit {0}
Met point (row ∷ rows) = Meets point row × Met point rows

-- an integer point of the system: one number for each column, and every row is at least 0 there
pub record IsPoint (system : Rows) (point : List ℤ) : Type 0 where
  pub width : length point ≡ system.columns
  pub meets : All (Meets point) system.rows

abbrev pub HasNoPoint : Rows → Type 0
HasNoPoint system = (point : List ℤ) → IsPoint system point → ⊥
