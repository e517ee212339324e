-- Sizes by which the numbers of the loops keep within `int64_t`.
use Rattle.std.specs.Prelude.{◌^◌, ◌<◌, ◌≤◌, ℤ, unsigned_abs}
use Rattle.std.specs.List.{All}
use Rattle.affc_rows.specs.Forms.{Affine}

-- a form of a schedule within its limits: coefficients up to 256 in magnitude, and a constant up to 2^30
abbrev pub IsSlight : Affine → Type 0
IsSlight f = All (λ c. unsigned_abs c ≤ 256) f.coefs × (unsigned_abs f.constant ≤ 2 ^ 30)

-- both ends lie well within it
abbrev pub IsSmall : ℤ × ℤ → Type 0
IsSmall range = (unsigned_abs range.0 < 2 ^ 62) × (unsigned_abs range.1 < 2 ^ 62)
