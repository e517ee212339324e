-- Numbers that fit 64 bits, and numbers of at most some magnitude.
use Rattle.affc_rows.specs.Forms.{Affine}
use Rattle.std.specs.Int.{w64}
use Rattle.std.specs.List.{All}
use Rattle.std.specs.Prelude.{ℕ, ◌≤◌, ℤ, List, unsigned_abs, FitsSigned}

abbrev pub IsWord : ℤ → Type 0
IsWord z = FitsSigned w64 z

abbrev pub FitsForm : Affine → Type 0
FitsForm f = All IsWord f.coefs × IsWord f.constant

-- each number is at most this in magnitude
abbrev pub AreSmall : ℕ → List ℤ → Type 0
AreSmall most cs = All (λ c. unsigned_abs c ≤ most) cs

-- the coefficients of a form are, and its constant is at most that other number
pub record IsSmall (most most_constant : ℕ) (f : Affine) : Type 0 where
  pub coefs : AreSmall most f.coefs
  pub constant : unsigned_abs f.constant ≤ most_constant
