-- Sizes of forms that are printed.
use Rattle.std.specs.Prelude.{◌^◌, ◌≤◌, unsigned_abs}
use Rattle.std.specs.List.{All}
use Rattle.affc_rows.specs.Forms.{Affine}

-- coefficients up to 2^40 in magnitude, and a constant up to 2^59
pub record IsModest (f : Affine) : Type 0 where
  pub coefs : All (λ c. unsigned_abs c ≤ 2 ^ 40) f.coefs
  pub constant : unsigned_abs f.constant ≤ 2 ^ 59
