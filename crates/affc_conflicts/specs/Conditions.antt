-- Conflicts over a context: systems whose points are pairs of different elements of an array, which are to have different places.
use Rattle.std.specs.Prelude.{◌≡◌, ◌≢◌, ◌+◌, ◌*◌, ◌^◌, ◌≤◌, ℤ, pos, ◌≤ℤ◌, ◌<ℤ◌, unsigned_abs, List, [], ◌∷◌, length, take}
use Rattle.affc_rows.specs.Forms.{Affine, value, values_of}
use Rattle.affc_system.specs.Systems.{Rows, IsPoint}
use Rattle.affc_system.specs.Boxes.{InBox}
use Rattle.affc_system.specs.Pairs.{IsBoxed}
use Rattle.affc_system.specs.declared.pairs.PairSystem.{PairSystem}

-- p is in the box of the parameters and meets the context
pub record InContext (context : Rows) (ranges : List (ℤ × ℤ)) (p : List ℤ) : Type 0 where
  pub meets : IsPoint context p
  pub inside : InBox ranges p

-- both ends of a parameter's range are within 2^24
pub record IsNear (range : ℤ × ℤ) : Type 0 where
  pub low : unsigned_abs range.0 ≤ 2 ^ 24
  pub high : unsigned_abs range.1 ≤ 2 ^ 24

-- the element's subscripts are from 0 to the extents less 1
abbrev pub LiesWithin : List Affine → (p x : List ℤ) → Type 0
LiesWithin [] p [] = Unit {0}
LiesWithin [] p (x ∷ xs) = ⊥
LiesWithin (e ∷ es) p [] = ⊥
LiesWithin (e ∷ es) p (x ∷ xs) = (pos 0 ≤ℤ x) × (x <ℤ value e p) × LiesWithin es p xs

-- a boxed system, at whose integer points two different elements lie within the extents
pub record IsConflict (context : Rows) (ranges : List (ℤ × ℤ)) (extents : List Affine) (s : PairSystem) : Type 0 where
  pub boxed : IsBoxed s.system s.ranges
  pub parameters : context.columns ≤ s.system.columns
  pub in_context : (z : List ℤ) → IsPoint s.system z → InContext context ranges (take context.columns z)
  pub x_each : length s.x.items ≡ length extents
  pub y_each : length s.y.items ≡ length extents
  pub differ : (z : List ℤ) → IsPoint s.system z → values_of s.x.items z ≢ values_of s.y.items z
  pub x_within : (z : List ℤ) → IsPoint s.system z → LiesWithin extents (take context.columns z) (values_of s.x.items z)
  pub y_within : (z : List ℤ) → IsPoint s.system z → LiesWithin extents (take context.columns z) (values_of s.y.items z)
  -- a question has the rows of the system and the context, two for each row of the basis before, and one more
  pub room : length s.system.rows + length context.rows + 2 * length extents ≤ 1024
