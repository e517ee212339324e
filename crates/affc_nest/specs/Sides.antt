-- Forms whose differences keep the limits of a system's rows.
use Rattle.std.specs.Prelude.{ℕ, ◌^◌, ◌≤◌, ℤ, unsigned_abs, List, [], ◌∷◌}
use Rattle.affc_rows.specs.Forms.{Affine}
use Rattle.affc_rows.specs.Sizes.{IsWithin}

-- a side of a comparison over so many columns
abbrev pub IsSide : (columns : ℕ) → Affine → Type 0
IsSide columns = IsWithin columns (2 ^ 16) (2 ^ 32)

-- both ends of each range
abbrev pub NearRanges : List (ℤ × ℤ) → Type 0
NearRanges [] = Unit {0}
NearRanges (r ∷ rs) = (unsigned_abs r.0 ≤ 2 ^ 32) × (unsigned_abs r.1 ≤ 2 ^ 32) × NearRanges rs
