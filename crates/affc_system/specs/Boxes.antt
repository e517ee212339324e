-- Boxes: a range of whole numbers for each column.
use Rattle.std.specs.Prelude.{◌≡◌, ◌⊎◌, ℕ, Bool, if◌then◌else◌, ◌+◌, ◌*◌, max, List, [], ◌∷◌, ℤ, pos, negsuc, ◌≤ℤ◌, unsigned_abs}
use Rattle.std.specs.List.{All}

-- the low end of a range is at most its high end
abbrev pub IsRange : ℤ × ℤ → Type 0
IsRange range = range.0 ≤ℤ range.1

-- a box: each range has its ends in order
abbrev pub IsBox : List (ℤ × ℤ) → Type 0
IsBox ranges = All IsRange ranges

-- the range of one number
abbrev pub pin : ℤ → ℤ × ℤ
pin x = (x, x)

-- the point has one number for each range, from its low to its high end
abbrev pub InBox : List (ℤ × ℤ) → List ℤ → Type 0
InBox [] [] = Unit {0}
InBox [] (x ∷ xs) = ⊥
InBox (r ∷ rs) [] = ⊥
InBox (r ∷ rs) (x ∷ xs) = (r.0 ≤ℤ x) × (x ≤ℤ r.1) × InBox rs xs

-- the point is a corner: one end of each range
abbrev pub IsCorner : List (ℤ × ℤ) → List ℤ → Type 0
IsCorner [] [] = Unit {0}
IsCorner [] (x ∷ xs) = ⊥
IsCorner (r ∷ rs) [] = ⊥
IsCorner (r ∷ rs) (x ∷ xs) = ((x ≡ r.0) ⊎ (x ≡ r.1)) × IsCorner rs xs

-- the end of a range at which a coefficient's product is greatest, or least
abbrev pub end_of : Bool → ℤ → ℤ × ℤ → ℤ
end_of greatest (pos n) r = (if greatest then r.1 else r.0)
end_of greatest (negsuc n) r = (if greatest then r.0 else r.1)

-- the corner of the box at which a row of coefficients is greatest, or least
abbrev pub corner : Bool → List ℤ → List (ℤ × ℤ) → List ℤ
corner greatest [] rs = []
corner greatest (c ∷ cs) [] = []
corner greatest (c ∷ cs) (r ∷ rs) = end_of greatest c r ∷ corner greatest cs rs

-- the greatest magnitude in a range
abbrev pub reach : ℤ × ℤ → ℕ
reach range = max (unsigned_abs range.0) (unsigned_abs range.1)

-- the greatest sum of the magnitudes of a row's terms over the box
abbrev pub box_magnitude : List ℤ → List (ℤ × ℤ) → ℕ
box_magnitude [] rs = 0
box_magnitude (c ∷ cs) [] = 0
box_magnitude (c ∷ cs) (r ∷ rs) = unsigned_abs c * reach r + box_magnitude cs rs
