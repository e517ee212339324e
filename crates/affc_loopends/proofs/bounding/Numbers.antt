-- Numbers that are compared.
use Rattle.std.proofs.Common.{◌≡◌, ◌⊎◌, ℕ, zero, suc, ◌<◌, ◌≤◌, ℤ, pos, negsuc, ◌<ℤ◌, ◌≤ℤ◌, refl, inl, inr, arith}
use Rattle.std.proofs.lemmas.Int.{ints}

pub le_itself : (n : ℕ) → n ≤ n
le_itself n = omega arith

pub le_from_lt : (a b : ℕ) → a < b → a ≤ b
le_from_lt a b h = omega arith

pub one_more : (n m : ℕ) → n ≤ m → n ≤ suc m
one_more n m h = omega arith

pub both_more : (n m : ℕ) → n ≤ m → suc n ≤ suc m
both_more n m h = omega arith

-- ---- Signs

pub above_or_not : (z : ℤ) → (pos 0 <ℤ z) ⊎ ((pos 0 <ℤ z) → ⊥)
above_or_not (pos zero) = inr (λ h. absurd (omega (arith, ints)))
above_or_not (pos (suc n)) = inl (omega (arith, ints))
above_or_not (negsuc n) = inr (λ h. absurd (omega (arith, ints)))

pub below_or_not : (z : ℤ) → (z <ℤ pos 0) ⊎ ((z <ℤ pos 0) → ⊥)
below_or_not (pos n) = inr (λ h. absurd (omega (arith, ints)))
below_or_not (negsuc n) = inl (omega (arith, ints))

pub least_or_not : (z : ℤ) → (pos 0 ≤ℤ z) ⊎ ((pos 0 ≤ℤ z) → ⊥)
least_or_not (pos n) = inl (omega (arith, ints))
least_or_not (negsuc n) = inr (λ h. absurd (omega (arith, ints)))

pub zero_or_not : (z : ℤ) → (z ≡ pos 0) ⊎ (z ≡ pos 0 → ⊥)
zero_or_not (pos zero) = inl refl
zero_or_not (pos (suc n)) = inr (λ e. absurd (omega (arith, ints)))
zero_or_not (negsuc n) = inr (λ e. absurd (omega (arith, ints)))
