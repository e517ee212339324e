-- The least power of two that isn't below a number.
use Rattle.std.proofs.Common.{◌≡◌, ℕ, zero, suc, ◌+◌, ◌*◌, ◌/◌, ◌^◌, ◌≤◌, ◌<◌, Bool, true, false, refl, sym, subst, inl, inr, arith, lit≤}
use Rattle.std.specs.Prelude.{max, nat_lt, if◌then◌else◌}
use Rattle.std.specs.Int.{IsPowerOfTwo}
use Rattle.std.proofs.lemmas.Bool.{cases_lt}
use Rattle.std.proofs.lemmas.Bool.Decides.{nat_tests}
use Rattle.std.proofs.Math.Nat.{pow-le-pow_right, one-le-pow, pow-suc, max-le, le_antisymm, le_trans}
use Rattle.affc_weigh.specs.Costs.{IsLeastPower, power_from, least_power}
use Rattle.affc_weigh.specs.Laws.{LeastPowerIsLeast}

lt_of : (m n : ℕ) → nat_lt m n ≡ true → m < n
lt_of m n e = grind (arith, nat_tests)

le_of : (m n : ℕ) → nat_lt m n ≡ false → n ≤ m
le_of m n e = grind (arith, nat_tests)

two_pos : 0 < 2
two_pos = lit≤ tt

rises : (i j : ℕ) → i ≤ j → 2 ^ i ≤ 2 ^ j
rises i j h = pow-le-pow_right two_pos h

double : (k : ℕ) → 2 ^ suc k ≡ 2 * 2 ^ k
double k = omega (arith, pow-suc 2 k)

-- 2 ^ k is below no power that isn't below n, where the earlier ones are
not_below : (k j n q : ℕ) → q ≡ 2 ^ j → n ≤ q → (j < k → 2 ^ j < n) → 2 ^ k ≤ q
not_below k j n q e h below = elim (cases_lt j k) [
  | inl l ↦ (let b : 2 ^ j < n = below l in omega arith)
  | inr g ↦ (let m : 2 ^ k ≤ 2 ^ j = rises k j g in omega arith)
]

at : (k n : ℕ) → ((j : ℕ) → j < k → 2 ^ j < n) → n ≤ 2 ^ k → IsLeastPower n (2 ^ k)
at k n below enough = record { power = (k, refl); enough = enough; least = λ q is h. not_below k is.0 n q is.1 h (below is.0) }

one_more : (k n j : ℕ) → (j < k → 2 ^ j < n) → 2 ^ k < n → j < suc k → 2 ^ j < n
one_more k n j below here h = elim (cases_lt j k) [
  | inl l ↦ below l
  | inr g ↦ (let m : 2 ^ j ≤ 2 ^ k = rises j k (omega arith) in omega arith)
]

chosen : (k n more : ℕ) (t : Bool) → nat_lt (2 ^ k) n ≡ t
    → (2 ^ k < n → IsLeastPower n (power_from more (2 * 2 ^ k) n)) → (n ≤ 2 ^ k → IsLeastPower n (2 ^ k))
    → IsLeastPower n (if t then power_from more (2 * 2 ^ k) n else 2 ^ k)
chosen k n more true e up here = up (lt_of (2 ^ k) n e)
chosen k n more false e up here = here (le_of (2 ^ k) n e)

reach : (n k more : ℕ) → n ≤ 2 ^ (k + suc more) → n ≤ 2 ^ (suc k + more)
reach n k more h = subst (λ e. n ≤ 2 ^ e) (shift k more) h
  where
    shift : (k more : ℕ) → k + suc more ≡ suc k + more
    shift k more = omega arith

from : (more k n : ℕ) → ((j : ℕ) → j < k → 2 ^ j < n) → n ≤ 2 ^ (k + more) → IsLeastPower n (power_from more (2 ^ k) n)
from zero k n below enough = at k n below (subst (λ e. n ≤ 2 ^ e) (ends k) enough)
  where
    ends : (k : ℕ) → k + zero ≡ k
    ends k = omega arith
from (suc more) k n below enough = chosen k n more (nat_lt (2 ^ k) n) refl
    (λ here. subst (λ p. IsLeastPower n (power_from more p n)) (double k) (from more (suc k) n (λ j h. one_more k n j (below j) here h) (reach n k more enough)))
    (λ here. at k n below here)

pub least_power_is_least : LeastPowerIsLeast
unfolding least_power
least_power_is_least n h = from 64 0 n (λ j g. absurd (omega arith)) h

-- ---- Of one number there is one

pub one_least : (n p q : ℕ) → IsLeastPower n p → IsLeastPower n q → p ≡ q
one_least n p q a b = le_antisymm (a.least q b.power b.enough) (b.least p a.power a.enough)

half : (h : ℕ) → (2 * h) / 2 ≡ h
half h = omega arith

beyond : (i j n q : ℕ) → q ≡ 2 ^ j → n ≤ q → (2 * 2 ^ i) / 2 < max 1 n → 2 * 2 ^ i ≤ q
beyond i j n q e h small =
    let one : 1 ≤ 2 ^ j = one-le-pow j 2 two_pos in
    let most : max 1 n ≤ q = max-le (omega arith) h in
    let halved : (2 * 2 ^ i) / 2 ≡ 2 ^ i = half (2 ^ i) in
    let twice : 2 ^ suc i ≡ 2 * 2 ^ i = double i in
    elim (cases_lt i j) [
      | inl l ↦ (let up : 2 ^ suc i ≤ 2 ^ j = rises (suc i) j (omega arith) in omega arith)
      | inr g ↦ (let down : 2 ^ j ≤ 2 ^ i = rises j i g in omega arith)
    ]

least_of : (n k q j : ℕ) → q ≡ 2 ^ j → n ≤ q → (2 ^ k) / 2 < max 1 n → 2 ^ k ≤ q
least_of n zero q j e h small = let one : 1 ≤ 2 ^ j = one-le-pow j 2 two_pos in at_least_one q (2 ^ j) e one
  where
    at_least_one : (q r : ℕ) → q ≡ r → 1 ≤ r → 1 ≤ q
    at_least_one q r e h = omega arith
least_of n (suc i) q j e h small = subst (λ r. r ≤ q) (sym (double i)) (beyond i j n q e h (subst (λ r. r / 2 < max 1 n) (double i) small))

next : (n p k : ℕ) → p ≡ 2 ^ k → n ≤ p → p / 2 < max 1 n → IsLeastPower n p
next n p k e enough small = record {
  power = (k, e);
  enough = enough;
  least = λ q is h. subst (λ r. r ≤ q) (sym e) (least_of n k q is.0 is.1 h (subst (λ r. r / 2 < max 1 n) e small));
}

-- what is a power of two, isn't below the number and has a half that is
pub next_is_least : (n p : ℕ) → n ≤ 2 ^ 64 → IsPowerOfTwo p → n ≤ p → p / 2 < max 1 n → p ≡ least_power n
next_is_least n p h is enough small = one_least n p (least_power n) (next n p is.0 is.1 enough small) (least_power_is_least n h)

pub least_power_rises : (m n : ℕ) → m ≤ n → n ≤ 2 ^ 64 → least_power m ≤ least_power n
least_power_rises m n h k =
    let great = least_power_is_least n k in
    (least_power_is_least m (le_trans h k)).least (least_power n) great.power (le_trans h great.enough)
