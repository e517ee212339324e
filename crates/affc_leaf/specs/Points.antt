-- The integer points of a box: their number, their order, and the least one that a system has.
use Rattle.std.specs.Prelude.{ℕ, ◌+◌, ◌*◌, List, [], ◌∷◌, ℤ, ◌-ℤ◌, unsigned_abs, map}
use Rattle.affc_system.specs.Systems.{Rows, IsPoint}
use Rattle.affc_system.specs.Boxes.{InBox}
use Rattle.affc_system.specs.Order.{LexLe}

-- how many integer points a box has, where each of its ranges has its ends in order
abbrev pub points : List (ℤ × ℤ) → ℕ
points [] = 1
points (r ∷ rs) = (unsigned_abs (r.1 -ℤ r.0) + 1) * points rs

-- the corner of a box at the low ends of its ranges
abbrev pub low_corner : List (ℤ × ℤ) → List ℤ
low_corner ranges = map (λ r. r.0) ranges

-- the lexicographically least integer point that the system has in the box
pub record IsLeastPoint (system : Rows) (ranges : List (ℤ × ℤ)) (x : List ℤ) : Type 0 where
  pub inside : InBox ranges x
  pub meets : IsPoint system x
  pub least : (z : List ℤ) → InBox ranges z → IsPoint system z → LexLe x z
