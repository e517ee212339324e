-- Fuel.
use Rattle.std.proofs.Common.{◌≡◌, ℕ, zero, suc, ◌+◌, ◌-◌, ◌*◌, ◌^◌, ◌<◌, ◌≤◌, List, [], ◌∷◌, length, slice_set, ℤ, pos, ◌+ℤ◌, ◌-ℤ◌, ◌≤ℤ◌, ◌<ℤ◌, subst, arith}
use Rattle.std.proofs.lemmas.Int.{ints}
use native.Mathlib.Numerals.{unary_clauses}
use Rattle.std.specs.Prelude.{unsigned_abs}
use borrow.Author.Differences.{abs_is}
use Rattle.affc_simplex.specs.declared.bounds.Bound.{Bound}
use Rattle.affc_leaf.specs.Bounds.{gap, Fuel, bound_at}

double : (e : ℕ) → 2 ^ suc e ≡ 2 * 2 ^ e
double e = simp unary_clauses (omega arith)

-- one exponent falls
one_less : (n : ℕ) (e : ℕ) (g h : ℕ) (bs : List Bound) → 1 ≤ g → g < 2 ^ e → h + h ≤ g → e ≤ n → Fuel (n - e) bs
    → (1 ≤ n) × ((d : ℕ) × ((h < 2 ^ d) × (d ≤ n - 1) × Fuel ((n - 1) - d) bs))
one_less n zero g h bs a b k l f = absurd (omega arith)
one_less n (suc e) g h bs a b k l f =
    let p = double e in
    let q : (n - suc e) ≡ ((n - 1) - e) = omega arith in
    let s : h < 2 ^ e = omega (arith, p) in
    (omega arith, (e, (s, omega arith, subst (λ m. Fuel m bs) q f)))

pub less_fuel : (n : ℕ) (bs : List Bound) (j : ℕ) (b : Bound) → j < length bs → 1 ≤ gap (bound_at bs j) → gap b + gap b ≤ gap (bound_at bs j) → Fuel n bs
    → (1 ≤ n) × Fuel (n - 1) (slice_set bs j b)
less_fuel n [] j b h g k f = absurd (omega arith)
less_fuel n (a ∷ bs) zero b h g k f = one_less n f.0 (gap a) (gap b) bs g f.1.0 k f.1.1 f.1.2
less_fuel n (a ∷ bs) (suc j) b h g k f =
    let r = less_fuel (n - f.0) bs j b (omega arith) g k f.1.2 in
    let q : ((n - f.0) - 1) ≡ ((n - 1) - f.0) = omega arith in
    let u : 1 ≤ n - f.0 = r.0 in
    (omega (arith, u), (f.0, (f.1.0, omega (arith, u, f.1.1), subst (λ m. Fuel m (slice_set bs j b)) q r.1)))

-- the gaps of the halves, doubled
pub low_gap : (lo hi at : ℤ) → lo ≤ℤ at → at <ℤ hi → ((at -ℤ lo) +ℤ (at -ℤ lo)) ≤ℤ (hi -ℤ lo) → unsigned_abs (at -ℤ lo) + unsigned_abs (at -ℤ lo) ≤ unsigned_abs (hi -ℤ lo)
low_gap lo hi at h k m = omega (arith, ints, abs_is (at -ℤ lo), abs_is (hi -ℤ lo))

pub high_gap : (lo hi at : ℤ) → lo ≤ℤ at → at <ℤ hi → ((hi -ℤ at) +ℤ (hi -ℤ at)) ≤ℤ ((hi -ℤ lo) +ℤ pos 1)
    → unsigned_abs (hi -ℤ (at +ℤ pos 1)) + unsigned_abs (hi -ℤ (at +ℤ pos 1)) ≤ unsigned_abs (hi -ℤ lo)
high_gap lo hi at h k m = omega (arith, ints, abs_is (hi -ℤ (at +ℤ pos 1)), abs_is (hi -ℤ lo))

pub free_gap : (lo hi : ℤ) → lo <ℤ hi → 1 ≤ unsigned_abs (hi -ℤ lo)
free_gap lo hi h = omega (arith, ints, abs_is (hi -ℤ lo))

-- a gap that isn't greater keeps the fuel
pub same_fuel : (n : ℕ) (bs : List Bound) (j : ℕ) (b : Bound) → gap b ≤ gap (bound_at bs j) → j < length bs → Fuel n bs → Fuel n (slice_set bs j b)
same_fuel n [] j b h l f = absurd (omega arith)
same_fuel n (a ∷ bs) zero b h l f = let g = f.1.0 in (f.0, (omega (arith, g), f.1.1, f.1.2))
same_fuel n (a ∷ bs) (suc j) b h l f = (f.0, (f.1.0, f.1.1, same_fuel (n - f.0) bs j b h (omega arith) f.1.2))

pub low_less : (lo hi at : ℤ) → lo ≤ℤ at → at <ℤ hi → unsigned_abs (at -ℤ lo) ≤ unsigned_abs (hi -ℤ lo)
low_less lo hi at h k = omega (arith, ints, abs_is (at -ℤ lo), abs_is (hi -ℤ lo))

pub high_less : (lo hi at : ℤ) → lo ≤ℤ at → at <ℤ hi → unsigned_abs (hi -ℤ (at +ℤ pos 1)) ≤ unsigned_abs (hi -ℤ lo)
high_less lo hi at h k = omega (arith, ints, abs_is (hi -ℤ (at +ℤ pos 1)), abs_is (hi -ℤ lo))
