-- A sum and a product as far as a number, from their sides as far as that number.
use Rattle.std.proofs.Common.{◌≡◌, ℕ, zero, suc, ◌+◌, ◌*◌, ◌≤◌, sym, ap, ◌∙◌, ◌⊎◌, inl, inr, arith}
use Rattle.std.specs.Prelude.{min}

by_size : (m n : ℕ) → (m ≤ n) ⊎ (n ≤ m)
by_size zero n = inl (omega arith)
by_size (suc m) zero = inr (omega arith)
by_size (suc m) (suc n) = elim (by_size m n) [ inl h ↦ inl (omega (arith, h)) | inr h ↦ inr (omega (arith, h)) ]

pub sums : (most m n : ℕ) → min most (m + n) ≡ min most (min most m + min most n)
sums most m n = omega arith

product_small : (most m n : ℕ) → m ≤ most → n ≤ most → min most (m * n) ≡ min most (min most m * min most n)
product_small most m n h g = ap (λ k. min most (k * n)) (small m h) ∙ ap (λ k. min most (min most m * k)) (small n g)
  where
    small : (k : ℕ) → k ≤ most → k ≡ min most k
    small k h = omega (arith, h)

pub products : (most m n : ℕ) → min most (m * n) ≡ min most (min most m * min most n)
products most m n = elim (by_size m most) [
  | inl h ↦ elim (by_size n most) [
    | inl g ↦ product_small most m n h g
    | inr g ↦ right most m n h g
  ]
  | inr h ↦ left most m n h
]
  where
    times_zero : (k : ℕ) → k * 0 ≡ 0
    times_zero k = omega arith

    zero_times : (k : ℕ) → 0 * k ≡ 0
    zero_times k = omega arith

    capped : (most a b : ℕ) → most ≤ a → most ≤ b → min most a ≡ min most b
    capped most a b h g = omega (arith, h, g)

    at_most : (most k : ℕ) → most ≤ k → min most k ≡ most
    at_most most k h = omega (arith, h)

    one_times : (most a b : ℕ) → most ≤ b → most ≤ suc a * b
    one_times most a b h = grind arith

    times_one : (most a b : ℕ) → most ≤ a → most ≤ a * suc b
    times_one most a b h = grind arith

    right : (most m n : ℕ) → m ≤ most → most ≤ n → min most (m * n) ≡ min most (min most m * min most n)
    right most zero n h g = ap (min most) (zero_times n ∙ sym (zero_times (min most n))) ∙ ap (λ k. min most (k * min most n)) none
      where
        none : 0 ≡ min most 0
        none = omega arith
    right most (suc m) n h g =
        capped most (suc m * n) (suc m * min most n) (one_times most m n g) (one_times most m (min most n) (below g)) ∙ ap (λ k. min most (k * min most n)) small
      where
        small : suc m ≡ min most (suc m)
        small = omega (arith, h)

        below : most ≤ n → most ≤ min most n
        below g = omega (arith, g)

    left : (most m n : ℕ) → most ≤ m → min most (m * n) ≡ min most (min most m * min most n)
    left most m zero h = ap (min most) (times_zero m ∙ sym (times_zero (min most m))) ∙ ap (λ k. min most (min most m * k)) none
      where
        none : 0 ≡ min most 0
        none = omega arith
    left zero m (suc n) h = omega arith
    left (suc most) m (suc n) h =
        capped (suc most) (m * suc n) (min (suc most) m * min (suc most) (suc n)) (times_one (suc most) m n h) (of (min (suc most) (suc n)) some)
      where
        some : 1 ≤ min (suc most) (suc n)
        some = omega arith

        top : min (suc most) m ≡ suc most
        top = omega (arith, h)

        of : (k : ℕ) → 1 ≤ k → suc most ≤ min (suc most) m * k
        of zero g = absurd (omega arith)
        of (suc k) g = times_one (suc most) (min (suc most) m) k (omega (arith, top))
