-- Numbers that stop at the greatest of 128 bits.
use Rattle.std.proofs.Common.{◌≡◌, ℕ, ◌*◌, arith, sym, ◌∙◌, ap}
use Rattle.std.specs.Prelude.{max}
use Rattle.std.proofs.Math.Nat.{mul_comm}
use Rattle.affc_weigh.specs.Costs.{stopped}
use Rattle.affc_weigh.proofs.Stopped.{stopped_times}
use Rattle.affc_bounds.specs.threshold.Thresholds.{cube}

pub stopped_max : (m n : ℕ) → max (stopped m) (stopped n) ≡ stopped (max m n)
stopped_max m n = grind arith

pub both_stop : (m n : ℕ) → stopped (stopped m * stopped n) ≡ stopped (m * n)
both_stop m n = stopped_times (stopped m) n ∙ (ap stopped (mul_comm (stopped m) n) ∙ (stopped_times n m ∙ ap stopped (mul_comm n m)))

-- a product of numbers that stopped, which stops itself
pub once : (a b m n x : ℕ) → a ≡ stopped m → b ≡ stopped n → x ≡ stopped (a * b) → x ≡ stopped (m * n)
once a b m n x f g e = e ∙ (ap (λ k. stopped (k * b)) f ∙ (ap (λ k. stopped (stopped m * k)) g ∙ both_stop m n))

-- the cube of a number that stopped
pub cubed : (a k : ℕ) → a ≡ stopped (cube (stopped k)) → a ≡ stopped (cube k)
cubed a k e = e ∙ (sym (stopped_times (stopped k) (stopped k * stopped k)) ∙ (ap (λ z. stopped (stopped k * z)) (both_stop k k) ∙ both_stop k (k * k)))
