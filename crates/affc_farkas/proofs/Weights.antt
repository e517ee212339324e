-- Weights: their sums, divisors and quotients.
use Rattle.std.proofs.Common.{◌≡◌, ℕ, zero, suc, ◌+◌, ◌*◌, ◌/◌, ◌^◌, ◌<◌, ◌≤◌, List, [], ◌∷◌, length, map, get_or, refl, sym, subst, inl, inr, ◌∙◌, ap, arith}
use Prim.Native.Nat.{◌∣◌}
use Rattle.std.specs.List.{All}
use Rattle.std.specs.Int.{IsGcd}
use Rattle.std.proofs.lemmas.List.Elements.{All-head, All-tail}
use Rattle.std.proofs.lemmas.List.{get_or-map}
use Rattle.std.proofs.lemmas.Nat.Gcd.{dvd_antisymm, dvd-zero, mod-eq-zero_of_dvd}
use Rattle.std.proofs.Common.{ℤ, pos, ◌+ℤ◌, ◌*ℤ◌, ◌<ℤ◌}
use Rattle.std.proofs.lemmas.Int.{ints}
use lib.IntN.{zero-*ℤ}
use Rattle.affc_rows.specs.Forms.{dot}
use Rattle.affc_farkas.specs.Eliminations.{mixed_weights, HasFrom, AreDivided, AreFactors, PassesLimit}

pub has_from : (bound : ℕ) (ws : List ℕ) (i : ℕ) → i < length ws → bound ≤ get_or ws i 0 → HasFrom bound ws
has_from bound [] i h k = absurd (omega arith)
has_from bound (w ∷ ws) zero h k = inl k
has_from bound (w ∷ ws) (suc i) h k = inr (has_from bound ws i (omega arith) k)

pub length-mixed_weights : (s : ℕ) (ws : List ℕ) (t : ℕ) (vs : List ℕ) → length ws ≡ length vs → length (mixed_weights s ws t vs) ≡ length ws
length-mixed_weights s [] t vs h = refl
length-mixed_weights s (w ∷ ws) t [] h = absurd (omega arith)
length-mixed_weights s (w ∷ ws) t (v ∷ vs) h = ap suc (length-mixed_weights s ws t vs (omega arith))

pub mixed_weights-at : (s : ℕ) (ws : List ℕ) (t : ℕ) (vs : List ℕ) (i : ℕ) → length ws ≡ length vs → i < length ws
    → get_or (mixed_weights s ws t vs) i 0 ≡ s * get_or ws i 0 + t * get_or vs i 0
mixed_weights-at s [] t vs i h k = absurd (omega arith)
mixed_weights-at s (w ∷ ws) t [] i h k = absurd (omega arith)
mixed_weights-at s (w ∷ ws) t (v ∷ vs) zero h k = refl
mixed_weights-at s (w ∷ ws) t (v ∷ vs) (suc i) h k = mixed_weights-at s ws t vs i (omega arith) (omega arith)

length-map' : (ws : List ℕ) (divisor : ℕ) → length (map (λ w. w / divisor) ws) ≡ length ws
length-map' [] divisor = refl
length-map' (w ∷ ws) divisor = ap suc (length-map' ws divisor)

pub divided_wide : (bound divisor : ℕ) (ws : List ℕ) (i : ℕ) → i < length ws → bound ≤ get_or ws i 0 / divisor → HasFrom bound (map (λ w. w / divisor) ws)
divided_wide bound divisor ws i h k =
    has_from bound (map (λ w. w / divisor) ws) i (omega (arith, length-map' ws divisor)) (subst (λ n. bound ≤ n) (sym (get_or-map (λ w. w / divisor) ws i 0 0 h)) k)

-- the quotients by a common divisor, times it, are the numbers
quotient : (d w : ℕ) → 1 ≤ d → d ∣ w → d * (w / d) ≡ w
quotient d w one h = let e = mod-eq-zero_of_dvd d h in omega (arith, e)

pub quotients_back : (d : ℕ) (ws : List ℕ) → 1 ≤ d → All (λ w. d ∣ w) ws → map (λ w. d * w) (map (λ w. w / d) ws) ≡ ws
quotients_back d [] one h = refl
quotients_back d (w ∷ ws) one h =
    ap (λ z. z ∷ map (λ w. d * w) (map (λ w. w / d) ws)) (quotient d w one (All-head (λ w. d ∣ w) w ws h))
    ∙ ap (λ zs. w ∷ zs) (quotients_back d ws one (All-tail (λ w. d ∣ w) w ws h))

-- a divisor of some number that isn't 0 isn't 0
zero_divides : (w : ℕ) → 0 ∣ w → w ≡ 0
zero_divides w h = dvd_antisymm (dvd-zero w) h

pub divisor_positive : (d : ℕ) (ws : List ℕ) → HasFrom 1 ws → All (λ w. d ∣ w) ws → 1 ≤ d
divisor_positive (suc d) ws some h = omega arith
divisor_positive zero [] some h = absurd some
divisor_positive zero (w ∷ ws) some h = elim some [ inl k ↦ absurd (omega (arith, zero_divides w (All-head (λ w. zero ∣ w) w ws h))) | inr k ↦ divisor_positive zero ws k (All-tail (λ w. zero ∣ w) w ws h) ]

one_sum : (s w r : ℕ) → 1 ≤ s → 1 ≤ w → 1 ≤ s * w + r
one_sum (suc s) (suc w) r h k = omega arith
one_sum zero w r h k = absurd (omega arith)
one_sum (suc s) zero r h k = absurd (omega arith)

no_term' : (x r z : ℤ) → z ≡ pos 0 → pos 0 <ℤ (z +ℤ r) → pos 0 <ℤ r
no_term' x r z e h = omega (arith, ints)

no_term : (x r : ℤ) → pos 0 <ℤ ((pos 0 *ℤ x) +ℤ r) → pos 0 <ℤ r
no_term x r h = no_term' x r (pos 0 *ℤ x) (zero-*ℤ x) h

pub some_mixed : (s : ℕ) (ws : List ℕ) (t : ℕ) (vs : List ℕ) → length ws ≡ length vs → 1 ≤ s → HasFrom 1 ws → HasFrom 1 (mixed_weights s ws t vs)
some_mixed s [] t vs e one h = absurd h
some_mixed s (w ∷ ws) t [] e one h = absurd (omega arith)
some_mixed s (w ∷ ws) t (v ∷ vs) e one h = elim h [ inl k ↦ inl (one_sum s w (t * v) one k) | inr k ↦ inr (some_mixed s ws t vs (omega arith) one k) ]

pub some_weight : (ws : List ℕ) (xs : List ℤ) → pos 0 <ℤ dot (map pos ws) xs → HasFrom 1 ws
some_weight [] xs h = absurd (omega (arith, ints))
some_weight (w ∷ ws) [] h = absurd (omega (arith, ints))
some_weight (suc w ∷ ws) (x ∷ xs) h = inl (omega arith)
some_weight (zero ∷ ws) (x ∷ xs) h = inr (some_weight ws xs (no_term x (dot (map pos ws) xs) h))

pub divided_is : (before weights : List ℕ) (d : ℕ) → 1 ≤ d → All (λ w. d ∣ w) before → ((k : ℕ) → All (λ w. k ∣ w) before → k ∣ d) → weights ≡ map (λ w. w / d) before → AreDivided before weights
divided_is before weights d one h g e = record {
  divisor = d;
  positive = one;
  greatest = g;
  quotients = ap (map (λ w. d * w)) e ∙ quotients_back d before one h;
}

pub passes_after : (before : List ℕ) (d : ℕ) → 1 ≤ d → All (λ w. d ∣ w) before → ((k : ℕ) → All (λ w. k ∣ w) before → k ∣ d) → HasFrom (2 ^ 53 + 1) (map (λ w. w / d) before) → PassesLimit before
passes_after before d one h g w = inr (map (λ w. w / d) before, divided_is before (map (λ w. w / d) before) d one h g refl, w)

-- the quotients of two numbers by their greatest common divisor are the least factors
gcd_positive : (a b d : ℕ) → 1 ≤ a → d ∣ a → 1 ≤ d
gcd_positive a b (suc d) one h = omega arith
gcd_positive a b zero one h = absurd (omega (arith, zero_divides a h))

pub gcd_not_zero : (a b d : ℕ) → 1 ≤ a → IsGcd a b d → 1 ≤ d
gcd_not_zero a b d one g = gcd_positive a b d one g.0

pub factors_are : (a b d : ℕ) → 1 ≤ a → IsGcd a b d → AreFactors a b (b / d) (a / d)
factors_are a b d one g =
    let p = gcd_positive a b d one g.0 in
    record { divisor = d; greatest = g; first = quotient d b p g.1; second = quotient d a p g.0 }

factor_nonzero : (d q b : ℕ) → 1 ≤ b → d * q ≡ b → 1 ≤ q
factor_nonzero d zero b one e = absurd (omega arith)
factor_nonzero d (suc q) b one e = omega arith

pub factor_positive : (a b d : ℕ) → 1 ≤ a → 1 ≤ b → IsGcd a b d → 1 ≤ b / d
factor_positive a b d one two g = factor_nonzero d (b / d) b two (quotient d b (gcd_positive a b d one g.0) g.1)
