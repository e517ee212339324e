-- Tests of whether one row says all that another says.
use Rattle.std.specs.Prelude.{◌≡◌, Bool, true, length, ◌≤ℤ◌}
use Rattle.affc_rows.specs.Forms.{Affine}
use Rattle.affc_eliminate.specs.Points.{Implies}

-- the test may be asked of any two forms over the same columns
abbrev pub TakesForms : (Takes : Affine → Affine → Type 0) → Type 0
TakesForms Takes = (kept other : Affine) → length kept.coefs ≡ length other.coefs → Takes kept other

-- where it answers true, the first form implies the second
abbrev pub ImpliesWhereTrue : (Answers : Affine → Affine → Bool → Type 0) → Type 0
ImpliesWhereTrue Answers = (kept other : Affine) → length kept.coefs ≡ length other.coefs → Answers kept other true → Implies kept other

-- equal coefficients, and a constant that is at most the other's
abbrev pub HasSameSlope : Affine → Affine → Type 0
HasSameSlope kept other = (kept.coefs ≡ other.coefs) × (kept.constant ≤ℤ other.constant)
