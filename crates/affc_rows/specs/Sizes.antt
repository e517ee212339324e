-- How large the entries of a form are.
use Rattle.std.specs.Prelude.{◌≡◌, ℕ, ◌≤◌, unsigned_abs, length}
use Rattle.std.specs.List.{All}
use Rattle.affc_rows.specs.Forms.{Affine}

-- a form over so many columns, its coefficients and its constant within these
pub record IsWithin (columns coefficient constant : ℕ) (form : Affine) : Type 0 where
  pub width : length form.coefs ≡ columns
  pub coefs_fit : All (λ c. unsigned_abs c ≤ coefficient) form.coefs
  pub constant_fits : unsigned_abs form.constant ≤ constant
