-- What is printed is small enough for it.
use Rattle.std.proofs.Common.{ℕ, ◌≤◌, ◌^◌, get_or, arith}
use Rattle.std.specs.Prelude.{unsigned_abs}
use Rattle.affc_rows.specs.Forms.{Affine}
use Rattle.affc_loops.specs.terms.Sizes.{IsModest}
use Rattle.affc_rewrite.specs.Sizes.{IsPrintable}

pub printable_modest : (names : ℕ) (f : Affine) → IsPrintable names f → IsModest f
printable_modest names f h = record {
  coefs = λ i d lt. let w : unsigned_abs (get_or f.coefs i d) ≤ 2 ^ 30 = h.coefs i d lt in omega (arith, w);
  constant = let w : unsigned_abs f.constant ≤ 2 ^ 55 = h.constant in omega (arith, w);
}
