-- Products that stop at the greatest number of 128 bits.
use Rattle.std.proofs.Common.{◌≡◌, ℕ, zero, suc, ◌*◌, ◌-◌, ◌^◌, ◌≤◌, arith, inl, inr}
use Rattle.std.specs.Prelude.{min}
use Rattle.std.proofs.lemmas.Bool.{cases_lt}
use Rattle.std.proofs.Math.Nat.{le_antisymm, le-min, le_trans, min-eq_left, min-eq_right, min-le_left, min-le_right, mul-le-mul_left, zero-mul, le-mul_of_pos_right, mul_comm}
use Rattle.affc_weigh.specs.Costs.{stopped}

below_both : (most m n : ℕ) → m ≤ n → min m most ≤ min n most
below_both most m n h = le-min (le_trans (min-le_left m most) h) (min-le_right m most)

pub stopped_rises : (m n : ℕ) → m ≤ n → stopped m ≤ stopped n
stopped_rises m n h = below_both (2 ^ 128 - 1) m n h

no_times : (n r a b : ℕ) → a ≡ 0 → b ≡ 0 → min a r ≤ b
no_times n r a b e f = let h : min a r ≤ a = min-le_left a r in omega (arith, h)

times : (most k n : ℕ) → min (suc k * n) most ≤ suc k * min n most
times most k n = elim (cases_lt n most) [
  | inl h ↦ (let l : n ≤ most = omega arith in rw (min-eq_left l) (min-le_left (suc k * n) most))
  | inr h ↦ (rw (min-eq_right h) (le_trans (min-le_right (suc k * n) most) (subst_comm most (suc k) (le-mul_of_pos_right most (omega arith)))))
]
  where
    subst_comm : (a b : ℕ) → a ≤ a * b → a ≤ b * a
    subst_comm a b h = rw (mul_comm b a) h

-- where the second factor stops, the product stops too, unless the first is 0
above : (most m n : ℕ) → min (m * n) most ≤ m * min n most
above most zero n = no_times n most (zero * n) (zero * min n most) (zero-mul n) (zero-mul (min n most))
above most (suc k) n = times most k n

same : (most m n : ℕ) → min (m * min n most) most ≡ min (m * n) most
same most m n = le_antisymm
    (below_both most (m * min n most) (m * n) (mul-le-mul_left m (min-le_left n most)))
    (le-min (above most m n) (min-le_right (m * n) most))

pub stopped_times : (m n : ℕ) → stopped (m * stopped n) ≡ stopped (m * n)
stopped_times m n = same (2 ^ 128 - 1) m n
