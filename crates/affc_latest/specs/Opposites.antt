-- The greatest point of a system in a box, by the least point of the system at the opposite of each point.
use Rattle.std.specs.Prelude.{ℤ, neg_ℤ, List, map, Option, Some, None}
use Rattle.affc_rows.specs.Forms.{Affine}
use Rattle.affc_system.specs.Boxes.{InBox}
use Rattle.affc_system.specs.Order.{LexLe}
use Rattle.affc_system.specs.Systems.{Rows, IsPoint}
use Rattle.affc_leaf.specs.Points.{IsLeastPoint}

-- ---- At the opposite of each point

abbrev pub opposite_row : Affine → Affine
opposite_row f = record f { coefs = map neg_ℤ f.coefs }

abbrev pub opposite_system : Rows → Rows
opposite_system system = record system { rows = map opposite_row system.rows }

abbrev pub opposite_range : ℤ × ℤ → ℤ × ℤ
opposite_range r = (neg_ℤ r.1, neg_ℤ r.0)

abbrev pub opposite_box : List (ℤ × ℤ) → List (ℤ × ℤ)
opposite_box ranges = map opposite_range ranges

-- ---- The least point, if there is one, and the greatest

abbrev pub IsLeastIn : Rows → List (ℤ × ℤ) → Option (List ℤ) → Type 0
IsLeastIn system ranges None = (x : List ℤ) → InBox ranges x → IsPoint system x → ⊥
IsLeastIn system ranges (Some x) = IsLeastPoint system ranges x

-- the lexicographically greatest integer point that the system has in the box
pub record IsGreatestPoint (system : Rows) (ranges : List (ℤ × ℤ)) (x : List ℤ) : Type 0 where
  pub inside : InBox ranges x
  pub meets : IsPoint system x
  pub greatest : (z : List ℤ) → InBox ranges z → IsPoint system z → LexLe z x

abbrev pub IsGreatestIn : Rows → List (ℤ × ℤ) → Option (List ℤ) → Type 0
IsGreatestIn system ranges None = (x : List ℤ) → InBox ranges x → IsPoint system x → ⊥
IsGreatestIn system ranges (Some x) = IsGreatestPoint system ranges x
