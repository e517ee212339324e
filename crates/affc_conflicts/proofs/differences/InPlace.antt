-- A multiple of the difference of two forms, added in place.
use Rattle.std.proofs.Common.{◌≡◌, ℕ, zero, suc, ◌+◌, ◌^◌, ◌<◌, ◌≤◌, List, [], ◌∷◌, ◌++◌, length, take, drop, slice_index_or, slice_set, ℤ, pos, negsuc, ◌+ℤ◌, ◌-ℤ◌, ◌*ℤ◌, refl, sym, ap, ◌∙◌, arith, add-one}
use Rattle.std.specs.Prelude.{unsigned_abs, FitsSigned}
use Rattle.std.specs.Int.{w128}
use Rattle.std.specs.List.{All, refill}
use Rattle.std.proofs.lemmas.Int.{ints, fits_signed_from_abs, unsigned_abs-mul}
use Rattle.std.proofs.lemmas.List.Elements.{All-nil, All-head, All-tail}
use Rattle.std.proofs.Math.Nat.{mul-le-mul}
use Rattle.affc_rows.specs.Forms.{Affine, mixed, mixed_form}
use Rattle.affc_conflicts.specs.differences.Differences.{IsSmall}
use Rattle.affc_rows.proofs.ValueLemmas.{length-mixed}
use Rattle.affc_rows.proofs.VocabularyLemmas.{refill_full}

pub apart_abs : (x y : ℤ) → unsigned_abs x ≤ 2 ^ 24 → unsigned_abs y ≤ 2 ^ 24 → unsigned_abs (x -ℤ y) ≤ 2 ^ 25
apart_abs x y h k = omega (arith, ints, h, k)

pub apart_fits : (d : ℤ) → unsigned_abs d ≤ 2 ^ 25 → FitsSigned w128 d
apart_fits d h = fits_signed_from_abs w128 d (omega (arith, h))

pub apart_is : (c x y : ℤ) → c *ℤ (x -ℤ y) ≡ c *ℤ ((pos 1 *ℤ x) +ℤ (negsuc 0 *ℤ y))
apart_is c x y = ap (λ u. c *ℤ u) (omega (arith, ints))

pub times_small : (c d : ℤ) → unsigned_abs c ≤ 256 → unsigned_abs d ≤ 2 ^ 25 → unsigned_abs (c *ℤ d) ≤ 2 ^ 33
times_small c d h k = omega (arith, unsigned_abs-mul c d, mul-le-mul h k)

-- one entry more is changed
put_step' : (t : ℤ) (sum ds : List ℤ) (i : ℕ) (v : ℤ) → i < length sum → i < length ds
    → v ≡ (pos 1 *ℤ slice_index_or sum i (pos 0)) +ℤ (t *ℤ slice_index_or ds i (pos 0))
    → take (suc i) (slice_set sum i v) ++ mixed (pos 1) (drop (suc i) (slice_set sum i v)) t (drop (suc i) ds) ≡ take i sum ++ mixed (pos 1) (drop i sum) t (drop i ds)
put_step' t [] ds i v h k e = absurd (omega arith)
put_step' t (s ∷ ss) [] i v h k e = absurd (omega arith)
put_step' t (s ∷ ss) (d ∷ ds) zero v h k e = ap (λ z. z ∷ mixed (pos 1) ss t ds) e
put_step' t (s ∷ ss) (d ∷ ds) (suc i) v h k e = ap (λ l. s ∷ l) (put_step' t ss ds i v (omega arith) (omega arith) e)

pub put_step : (t : ℤ) (sum ds : List ℤ) (i : ℕ) (v : ℤ) → i < length sum → i < length ds
    → v ≡ (pos 1 *ℤ slice_index_or sum i (pos 0)) +ℤ (t *ℤ slice_index_or ds i (pos 0))
    → take (i + 1) (slice_set sum i v) ++ mixed (pos 1) (drop (i + 1) (slice_set sum i v)) t (drop (i + 1) ds) ≡ take i sum ++ mixed (pos 1) (drop i sum) t (drop i ds)
put_step t sum ds i v h k e = simp add-one (put_step' t sum ds i v h k e)

pub later_head : (sum : List ℤ) (i : ℕ) → i < length sum → All (λ v. unsigned_abs v ≤ 2 ^ 40) (drop i sum) → unsigned_abs (slice_index_or sum i (pos 0)) ≤ 2 ^ 40
later_head [] i h a = absurd (omega arith)
later_head (s ∷ ss) zero h a = All-head (λ v. unsigned_abs v ≤ 2 ^ 40) s ss a
later_head (s ∷ ss) (suc i) h a = later_head ss i (omega arith) a

later_next' : (sum : List ℤ) (i : ℕ) (v : ℤ) → All (λ v. unsigned_abs v ≤ 2 ^ 40) (drop i sum) → All (λ v. unsigned_abs v ≤ 2 ^ 40) (drop (suc i) (slice_set sum i v))
later_next' [] zero v a = All-nil (λ v. unsigned_abs v ≤ 2 ^ 40)
later_next' [] (suc i) v a = All-nil (λ v. unsigned_abs v ≤ 2 ^ 40)
later_next' (s ∷ ss) zero v a = All-tail (λ v. unsigned_abs v ≤ 2 ^ 40) s ss a
later_next' (s ∷ ss) (suc i) v a = later_next' ss i v a

pub later_next : (sum : List ℤ) (i : ℕ) (v : ℤ) → All (λ v. unsigned_abs v ≤ 2 ^ 40) (drop i sum) → All (λ v. unsigned_abs v ≤ 2 ^ 40) (drop (i + 1) (slice_set sum i v))
later_next sum i v a = rw add-one (later_next' sum i v a)

pub apart_at : (xs ys : List ℤ) (i : ℕ) → i < length xs → i < length ys
    → slice_index_or (mixed (pos 1) xs (negsuc 0) ys) i (pos 0) ≡ (pos 1 *ℤ slice_index_or xs i (pos 0)) +ℤ (negsuc 0 *ℤ slice_index_or ys i (pos 0))
apart_at [] ys i h k = absurd (omega arith)
apart_at (x ∷ xs) [] i h k = absurd (omega arith)
apart_at (x ∷ xs) (y ∷ ys) zero h k = refl
apart_at (x ∷ xs) (y ∷ ys) (suc i) h k = apart_at xs ys i (omega arith) (omega arith)

pub added_fits : (s t : ℤ) → unsigned_abs s ≤ 2 ^ 40 → unsigned_abs t ≤ 2 ^ 33 → FitsSigned w128 (s +ℤ t)
added_fits s t h k = fits_signed_from_abs w128 (s +ℤ t) (omega (arith, ints, h, k))

pub added_is : (c : ℤ) (xs ys : List ℤ) (s t : ℤ) (i : ℕ) → i < length xs → i < length ys
    → t ≡ c *ℤ ((pos 1 *ℤ slice_index_or xs i (pos 0)) +ℤ (negsuc 0 *ℤ slice_index_or ys i (pos 0)))
    → s +ℤ t ≡ (pos 1 *ℤ s) +ℤ (c *ℤ slice_index_or (mixed (pos 1) xs (negsuc 0) ys) i (pos 0))
added_is c xs ys s t i h k e = sum_is s t _ (e ∙ ap (λ u. c *ℤ u) (sym (apart_at xs ys i h k)))
  where
    sum_is : (s t u : ℤ) → t ≡ u → s +ℤ t ≡ (pos 1 *ℤ s) +ℤ u
    sum_is s t u e = omega (arith, ints, e)

-- the form whose numbers were changed in place
pub put_is : (sum x y : Affine) (c : ℤ) (items old xs ys new : List ℤ) (k kx ky t : ℤ)
    → record { coefs = items; constant = k } ≡ sum → old ≡ items → xs ≡ x.coefs → ys ≡ y.coefs → kx ≡ x.constant → ky ≡ y.constant
    → length x.coefs ≡ length sum.coefs → length y.coefs ≡ length sum.coefs
    → new ≡ mixed (pos 1) old c (mixed (pos 1) xs (negsuc 0) ys) → t ≡ c *ℤ ((pos 1 *ℤ kx) +ℤ (negsuc 0 *ℤ ky))
    → record { coefs = refill (length items) items new; constant = k +ℤ t } ≡ mixed_form (pos 1) sum c (mixed_form (pos 1) x (negsuc 0) y)
put_is sum x y c items old xs ys new k kx ky t v o a b kxe kye h g e f =
    let apart = mixed (pos 1) x.coefs (negsuc 0) y.coefs in
    let i : items ≡ sum.coefs = ap (λ (u : Affine). u.coefs) v in
    let ke : k ≡ sum.constant = ap (λ (u : Affine). u.constant) v in
    let n : new ≡ mixed (pos 1) sum.coefs c apart =
    e ∙ ap (λ u. mixed (pos 1) u c (mixed (pos 1) xs (negsuc 0) ys)) (o ∙ i)
    ∙ ap (λ u. mixed (pos 1) sum.coefs c (mixed (pos 1) u (negsuc 0) ys)) a
    ∙ ap (λ u. mixed (pos 1) sum.coefs c (mixed (pos 1) x.coefs (negsuc 0) u)) b in
    let wide : length new ≡ length items =
    ap length n ∙ length-mixed (pos 1) sum.coefs c apart (sym (length-mixed (pos 1) x.coefs (negsuc 0) y.coefs (h ∙ sym g) ∙ h)) ∙ ap length (sym i) in
    let m : t ≡ c *ℤ ((pos 1 *ℤ x.constant) +ℤ (negsuc 0 *ℤ y.constant)) =
    f ∙ ap (λ u. c *ℤ ((pos 1 *ℤ u) +ℤ (negsuc 0 *ℤ ky))) kxe ∙ ap (λ u. c *ℤ ((pos 1 *ℤ x.constant) +ℤ (negsuc 0 *ℤ u))) kye in
    ap (λ l. record { coefs = l; constant = k +ℤ t }) (refill_full items new wide ∙ n)
    ∙ ap (λ z. record { coefs = mixed (pos 1) sum.coefs c apart; constant = z }) (sum_is k sum.constant t _ ke m)
  where
    sum_is : (k s t u : ℤ) → k ≡ s → t ≡ u → k +ℤ t ≡ (pos 1 *ℤ s) +ℤ u
    sum_is k s t u h e = omega (arith, ints, h, e)

pub constant_fits : (columns n : ℕ) (sum : Affine) (k t : ℤ) → n < 8 → IsSmall columns n sum → k ≡ sum.constant → unsigned_abs t ≤ 2 ^ 33 → FitsSigned w128 (k +ℤ t)
constant_fits columns n sum k t few h e m = fits_signed_from_abs w128 (k +ℤ t) (omega (arith, ints, few, h.constant_fits, ap unsigned_abs e, m))

pub none_more : (c v w : ℤ) → c ≡ pos 0 → v ≡ v +ℤ (c *ℤ w)
none_more c v w e = omega (arith, ints, ap (λ u. u *ℤ w) e)
