-- Values of slight forms, and comparisons of lists.
use Rattle.std.proofs.Common.{◌≡◌, ℕ, zero, suc, ◌+◌, ◌*◌, ◌^◌, ◌<◌, ◌≤◌, ℤ, pos, ◌+ℤ◌, ◌*ℤ◌, Bool, true, false, IsTrue, List, [], ◌∷◌, ◌++◌, length, drop, take, get_or, FitsSigned, Some, refl, sym, ap, subst, ◌∙◌, arith}
use Rattle.std.specs.Prelude.{unsigned_abs, nat_abs, nat_le, ◌&&◌, slice_get}
use Rattle.std.specs.Int.{w128}
use Rattle.std.proofs.lemmas.Bool.Decides.{nat_tests}
use Rattle.std.proofs.lemmas.Int.{ints, unsigned_abs-mul, fits_signed_from_abs}
use Rattle.std.proofs.Math.Nat.{mul-le-mul, mul-le-mul_right}
use Rattle.affc_rows.proofs.IntLemmas.{abs-add}
use Rattle.affc_rows.specs.Forms.{Affine, dot, value}
use Rattle.std.proofs.lemmas.Option.{none-some, same_Some}
use Rattle.affc_trace.specs.declared.schedule.Schedule.TheVariants.{Time}
use Rattle.affc_trace.specs.declared.schedule.TimeMap.{TimeMap}
use Rattle.affc_trace.specs.Target.{are_slight, all_slight, maps_within, within_limits}

-- ---- Sizes

pub sum_size : (s p : ℤ) (i m : ℕ) → unsigned_abs s ≤ i * m → unsigned_abs p ≤ m → unsigned_abs (s +ℤ p) ≤ (i + 1) * m
sum_size s p i m k l = let e = abs-add s p in omega (arith, e)

pub sum_fits : (z : ℤ) (i : ℕ) → unsigned_abs z ≤ (i + 1) * 2 ^ 71 → i < 16 → FitsSigned w128 z
sum_fits z i h few =
    let few_more : i + 1 ≤ 16 = omega arith in
    let bound : (i + 1) * 2 ^ 71 ≤ 16 * 2 ^ 71 = mul-le-mul_right (2 ^ 71) few_more in
    fits_signed_from_abs w128 z (omega arith)

pub small_product : (c x : ℤ) → unsigned_abs c ≤ 256 → unsigned_abs x ≤ 2 ^ 63 → unsigned_abs (c *ℤ x) ≤ 2 ^ 71
small_product c x h k = let e = unsigned_abs-mul c x in let b : unsigned_abs c * unsigned_abs x ≤ 256 * 2 ^ 63 = mul-le-mul h k in omega (arith, e, b)

-- ---- Slight coefficients

both_true : (s t : Bool) → IsTrue (s && t) → IsTrue s × IsTrue t
both_true true t h = (refl, h)
both_true false t h = absurd (cc)

at_most : (m n : ℕ) → IsTrue (nat_le m n) → m ≤ n
at_most m n h = grind (arith, nat_tests)

pub slight_at : (cs : List ℤ) → IsTrue (are_slight cs) → (i : ℕ) → unsigned_abs (get_or cs i (pos 0)) ≤ 256
slight_at [] h i = omega arith
slight_at (c ∷ cs) h zero = at_most (nat_abs c) 256 (both_true (nat_le (nat_abs c) 256) (are_slight cs) h).0
slight_at (c ∷ cs) h (suc i) = slight_at cs (both_true (nat_le (nat_abs c) 256) (are_slight cs) h).1 i

pub slight_take : (n : ℕ) (cs : List ℤ) → IsTrue (are_slight cs) → IsTrue (are_slight (take n cs))
slight_take zero cs h = refl
slight_take (suc n) [] h = refl
slight_take (suc n) (c ∷ cs) h = let k = both_true (nat_le (nat_abs c) 256) (are_slight cs) h in ap (λ t. t && are_slight (take n cs)) k.0 ∙ slight_take n cs k.1

pub slight_drop : (n : ℕ) (cs : List ℤ) → IsTrue (are_slight cs) → IsTrue (are_slight (drop n cs))
slight_drop zero cs h = h
slight_drop (suc n) [] h = h
slight_drop (suc n) (c ∷ cs) h = slight_drop n cs (both_true (nat_le (nat_abs c) 256) (are_slight cs) h).1

-- a product in two parts
pub dot_parts : (cs xs ys : List ℤ) → dot (take (length xs) cs) xs +ℤ dot (drop (length xs) cs) ys ≡ dot cs (xs ++ ys)
dot_parts cs [] ys = zero_plus (dot cs ys)
  where
    zero_plus : (z : ℤ) → pos 0 +ℤ z ≡ z
    zero_plus z = omega (arith, ints)
dot_parts [] (x ∷ xs) ys = refl
dot_parts (c ∷ cs) (x ∷ xs) ys = grouped (c *ℤ x) (dot (take (length xs) cs) xs) (dot (drop (length xs) cs) ys) ∙ ap (λ z. (c *ℤ x) +ℤ z) (dot_parts cs xs ys)
  where
    grouped : (a b d : ℤ) → (a +ℤ b) +ℤ d ≡ a +ℤ (b +ℤ d)
    grouped a b d = omega (arith, ints)

-- ---- The value of a form

pub total_fits : (a b k : ℤ) → unsigned_abs a ≤ 16 * 2 ^ 71 → unsigned_abs b ≤ 16 * 2 ^ 71 → unsigned_abs k ≤ 2 ^ 30 → FitsSigned w128 (a +ℤ b) × FitsSigned w128 ((a +ℤ b) +ℤ k)
total_fits a b k h i j =
    let e = abs-add a b in
    let f = abs-add (a +ℤ b) k in
    (fits_signed_from_abs w128 (a +ℤ b) (omega (arith, e)), fits_signed_from_abs w128 ((a +ℤ b) +ℤ k) (omega (arith, e, f)))

pub value_parts : (f : Affine) (cs outer inner xs ys : List ℤ) (a b k : ℤ) → cs ≡ f.coefs → k ≡ f.constant → outer ≡ take (length xs) cs → inner ≡ drop (length xs) cs
    → a ≡ dot outer xs → b ≡ dot inner ys → (a +ℤ b) +ℤ k ≡ value f (xs ++ ys)
value_parts f cs outer inner xs ys a b k e d o i u v =
    ap (λ z. (z +ℤ b) +ℤ k) (u ∙ ap (λ l. dot l xs) o) ∙ ap (λ z. (dot (take (length xs) cs) xs +ℤ z) +ℤ k) (v ∙ ap (λ l. dot l ys) i)
    ∙ ap (λ z. z +ℤ k) (dot_parts cs xs ys) ∙ ap (λ l. dot l (xs ++ ys) +ℤ k) e ∙ ap (λ z. dot f.coefs (xs ++ ys) +ℤ z) d

-- ---- Slight forms

pub slight_form : (fs : List Affine) (i : ℕ) (f : Affine) → IsTrue (all_slight fs) → i < length fs → f ≡ get_or fs i f → (nat_abs f.constant ≤ 2 ^ 30) × IsTrue (are_slight f.coefs)
slight_form [] i f h l e = absurd (omega arith)
slight_form (g ∷ fs) zero f h l e =
    let a = both_true (nat_le (nat_abs g.constant) (2 ^ 30) && are_slight g.coefs) (all_slight fs) h in
    let b = both_true (nat_le (nat_abs g.constant) (2 ^ 30)) (are_slight g.coefs) a.0 in
    subst (λ (u : Affine). (nat_abs u.constant ≤ 2 ^ 30) × IsTrue (are_slight u.coefs)) (sym e) (at_most (nat_abs g.constant) (2 ^ 30) b.0, b.1)
slight_form (g ∷ fs) (suc i) f h l e = slight_form fs i f (both_true (nat_le (nat_abs g.constant) (2 ^ 30) && are_slight g.coefs) (all_slight fs) h).1 (omega arith) e

pub slight_map : (ms : List TimeMap) (k : ℕ) (m : TimeMap) → IsTrue (maps_within ms) → slice_get ms k ≡ Some m → IsTrue (all_slight m.forms)
slight_map [] k m h e = absurd (none-some m e)
slight_map (x ∷ ms) zero m h e =
    let a = both_true (all_slight x.forms && all_slight x.inverse) (maps_within ms) h in
    subst (λ (u : TimeMap). IsTrue (all_slight u.forms)) (same_Some x m e) (both_true (all_slight x.forms) (all_slight x.inverse) a.0).0
slight_map (x ∷ ms) (suc k) m h e = slight_map ms k m (both_true (all_slight x.forms && all_slight x.inverse) (maps_within ms) h).1 e

pub slight_maps : (n : ℕ) (maps : List TimeMap) → IsTrue (within_limits (Time n maps)) → IsTrue (maps_within maps)
slight_maps n maps h = (both_true (nat_le 1 n && nat_le n 12) (maps_within maps) h).1
