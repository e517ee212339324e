-- The two halves of a box.
use Rattle.std.proofs.Common.{◌≡◌, ℕ, zero, suc, ◌+◌, ◌*◌, ◌<◌, ◌≤◌, List, [], ◌∷◌, length, ℤ, pos, ◌+ℤ◌, ◌-ℤ◌, ◌≤ℤ◌, ◌<ℤ◌, ap, arith, inl, inr, ◌⊎◌, add-one}
use Rattle.std.proofs.lemmas.Int.{ints, by_lt_z}
use Rattle.std.specs.Prelude.{unsigned_abs}
use borrow.Author.Differences.{abs_is}
use Rattle.affc_simplex.specs.declared.bounds.Bound.{Bound}
use Rattle.affc_leaf.specs.Bounds.{Inside, gap, size, FirstFree, lowered, raised, bound_at}
use Rattle.affc_system.specs.Order.{LexLe}
use Rattle.affc_leaf.specs.Points.{points}

-- what holds of the first free column, at the rest of the list
free_later : (b : Bound) (bs : List Bound) (j : ℕ) → FirstFree (b ∷ bs) (suc j) → FirstFree bs j
free_later b bs j f = record {
  there = omega (arith, f.there);
  free = f.free;
  before = λ k h. f.before (suc k) (omega arith);
}

-- every point of the lower half is before every point of the upper one
pub halves_before : (bs : List Bound) (j : ℕ) (at : ℤ) (r s : ℕ) (x z : List ℤ) → FirstFree bs j
    → Inside (lowered bs j at r) x → Inside (raised bs j at s) z → LexLe x z
halves_before [] j at r s x z f p q = absurd (omega (arith, f.there))
halves_before (b ∷ bs) zero at r s [] z f p q = absurd p
halves_before (b ∷ bs) zero at r s (x ∷ xs) [] f p q = absurd q
halves_before (b ∷ bs) zero at r s (x ∷ xs) (z ∷ zs) f p q = inl (omega (arith, ints, p.1, q.0))
halves_before (b ∷ bs) (suc j) at r s [] z f p q = absurd p
halves_before (b ∷ bs) (suc j) at r s (x ∷ xs) [] f p q = absurd q
halves_before (b ∷ bs) (suc j) at r s (x ∷ xs) (z ∷ zs) f p q =
    let e : b.low ≡ b.high = f.before zero (omega arith) in
    let g : x ≡ z = omega (arith, ints, e, p.0, p.1, q.0, q.1) in
    inr (g, halves_before bs j at r s xs zs (free_later b bs j f) p.2 q.2)

-- a point of the box is in one of the halves
pub in_half : (bs : List Bound) (j : ℕ) (at : ℤ) (r s : ℕ) (x : List ℤ) → j < length bs
    → Inside bs x → Inside (lowered bs j at r) x ⊎ Inside (raised bs j at s) x
in_half [] j at r s x h p = absurd (omega arith)
in_half (b ∷ bs) j at r s [] h p = absurd p
in_half (b ∷ bs) zero at r s (x ∷ xs) h p =
    by_lt_z at x (λ l. inr (let m : (at +ℤ pos 1) ≤ℤ x = omega (arith, ints, l) in (m, p.1, p.2))) (λ l. inl (p.0, l, p.2))
in_half (b ∷ bs) (suc j) at r s (x ∷ xs) h p =
    elim (in_half bs j at r s xs (omega arith) p.2) [ inl l ↦ inl (p.0, p.1, l) | inr u ↦ inr (p.0, p.1, u) ]

-- a point of a half is one of the box
pub from_lower : (bs : List Bound) (j : ℕ) (at : ℤ) (r : ℕ) (x : List ℤ) → j < length bs → at ≤ℤ (bound_at bs j).high
    → Inside (lowered bs j at r) x → Inside bs x
from_lower [] j at r x h m p = absurd (omega arith)
from_lower (b ∷ bs) zero at r [] h m p = absurd p
from_lower (b ∷ bs) zero at r (x ∷ xs) h m p = let l : x ≤ℤ b.high = omega (arith, ints, p.1, m) in (p.0, l, p.2)
from_lower (b ∷ bs) (suc j) at r [] h m p = absurd p
from_lower (b ∷ bs) (suc j) at r (x ∷ xs) h m p = (p.0, p.1, from_lower bs j at r xs (omega arith) m p.2)

pub from_upper : (bs : List Bound) (j : ℕ) (at : ℤ) (r : ℕ) (x : List ℤ) → j < length bs → (bound_at bs j).low ≤ℤ at
    → Inside (raised bs j at r) x → Inside bs x
from_upper [] j at r x h m p = absurd (omega arith)
from_upper (b ∷ bs) zero at r [] h m p = absurd p
from_upper (b ∷ bs) zero at r (x ∷ xs) h m p = let l : b.low ≤ℤ x = omega (arith, ints, p.0, m) in (l, p.1, p.2)
from_upper (b ∷ bs) (suc j) at r [] h m p = absurd p
from_upper (b ∷ bs) (suc j) at r (x ∷ xs) h m p = (p.0, p.1, from_upper bs j at r xs (omega arith) m p.2)

-- the gaps of the halves
gaps : (lo hi at : ℤ) → lo ≤ℤ at → at <ℤ hi → (unsigned_abs (at -ℤ lo) + 1) + (unsigned_abs (hi -ℤ (at +ℤ pos 1)) + 1) ≡ unsigned_abs (hi -ℤ lo) + 1
gaps lo hi at h k = omega (arith, ints, abs_is (at -ℤ lo), abs_is (hi -ℤ (at +ℤ pos 1)), abs_is (hi -ℤ lo))

spread : (a b c n : ℕ) → a + b ≡ c → a * n + b * n ≡ c * n
spread a b c n h = omega (arith, ap (λ k. k * n) h)

regroup : (w a b c : ℕ) → a + b ≡ c → w * a + w * b ≡ w * c
regroup w a b c h = omega (arith, ap (λ k. w * k) h)

pub halves_points : (bs : List Bound) (j : ℕ) (at : ℤ) (r s : ℕ) → j < length bs → (bound_at bs j).low ≤ℤ at → at <ℤ (bound_at bs j).high
    → size (lowered bs j at r) + size (raised bs j at s) ≡ size bs
halves_points [] j at r s h l u = absurd (omega arith)
halves_points (b ∷ bs) zero at r s h l u = spread _ _ _ (size bs) (gaps b.low b.high at l u)
halves_points (b ∷ bs) (suc j) at r s h l u = regroup (gap b + 1) _ _ _ (halves_points bs j at r s (omega arith) l u)

one_each : (a n : ℕ) → 1 ≤ n → 1 ≤ (a + 1) * n
one_each a n h = omega (arith, ap (λ k. k * n) (add-one a))

pub some_points : (bs : List Bound) → 1 ≤ size bs
some_points [] = omega arith
some_points (b ∷ bs) = one_each (gap b) (size bs) (some_points bs)

pub some_in_ranges : (rs : List (ℤ × ℤ)) → 1 ≤ points rs
some_in_ranges [] = omega arith
some_in_ranges (r ∷ rs) = one_each (unsigned_abs (r.1 -ℤ r.0)) (points rs) (some_in_ranges rs)

-- a box with a free column has two points or more
pub two_points : (bs : List Bound) (j : ℕ) → FirstFree bs j → 2 ≤ size bs
two_points bs j f =
    let at = (bound_at bs j).low in
    let here : at ≤ℤ at = omega (arith, ints) in
    let e = halves_points bs j at 0 0 f.there here f.free in
    let a = some_points (lowered bs j at 0) in
    let b = some_points (raised bs j at 0) in
    omega (arith, e, a, b)
