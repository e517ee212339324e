-- Values of rows at rational points.
use Rattle.std.proofs.Common.{◌≡◌, List, ℤ, ◌+ℤ◌, ◌*ℤ◌, subst, arith}
use Rattle.std.specs.Prelude.{◌-ℤ◌}
use Rattle.std.proofs.lemmas.Int.{ints}
use Rattle.affc_rows.specs.Forms.{Affine, dot, value}
use Rattle.affc_farkas.specs.Rational.{scaled_value}

scaled_once : (products c v m t : ℤ) → v ≡ products +ℤ c → t ≡ (v -ℤ c) +ℤ m → t ≡ products +ℤ m
scaled_once products c v m t e f = omega (arith, ints)

-- a multiple of the constant in the place of the constant
pub scaled_sum : (row : Affine) (x : List ℤ) (d v k t : ℤ) → k ≡ row.constant → v ≡ value row x → t ≡ (v -ℤ k) +ℤ (d *ℤ k) → t ≡ scaled_value row x d
scaled_sum row x d v k t s e f = scaled_once (dot row.coefs x) row.constant v (d *ℤ row.constant) t e (subst (λ c. t ≡ (v -ℤ c) +ℤ (d *ℤ c)) s f)
