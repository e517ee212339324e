-- Pairs of elements, as the integer points of a system and the subscripts of two elements at each.
use Rattle.std.specs.Prelude.{◌≡◌, ℕ, ◌^◌, ◌≤◌, List, length, ℤ, unsigned_abs}
use Rattle.std.specs.List.{All}
use Rattle.affc_rows.specs.Forms.{Affine}
use Rattle.affc_rows.specs.Sizes.{IsWithin}
use Rattle.affc_system.specs.Systems.{Rows, IsPoint}
use Rattle.affc_system.specs.Boxes.{InBox}

-- a subscript: a form over so many columns, its coefficients within 65,536 and its constant within 16,777,216
abbrev pub IsSubscript : (columns : ℕ) → Affine → Type 0
IsSubscript columns = IsWithin columns 65536 16777216

-- both ends of the range are within 2^60
pub record WithinReach (range : ℤ × ℤ) : Type 0 where
  pub low : unsigned_abs range.0 ≤ 2 ^ 60
  pub high : unsigned_abs range.1 ≤ 2 ^ 60

-- the system is boxed: one range for each column, all within 2^60, and every integer point lies in them
pub record IsBoxed (system : Rows) (ranges : List (ℤ × ℤ)) : Type 0 where
  pub width : length ranges ≡ system.columns
  pub within : All WithinReach ranges
  pub holds : (point : List ℤ) → IsPoint system point → InBox ranges point
