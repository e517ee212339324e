-- Two elements have one place exactly where their difference is in the lattice.
use Rattle.std.proofs.Common.{◌≡◌, ℕ, zero, suc, ◌+◌, ◌-◌, ◌*◌, ◌/◌, ◌%◌, ◌<◌, ℤ, pos, negsuc, ◌+ℤ◌, ◌-ℤ◌, ◌*ℤ◌, neg_ℤ, ◌≤ℤ◌, ◌<ℤ◌, List, [], ◌∷◌, length, refl, sym, ap, subst, ◌∙◌, arith}
use Rattle.std.specs.Prelude.{slice_get, unsigned_abs, Some}
use Rattle.std.specs.Int.{int_rem_euclid}
use Rattle.std.proofs.lemmas.Int.{ints, unsigned_abs-mul}
use Rattle.std.proofs.lemmas.Option.{same_Some, none-some}
use Rattle.affc_rows.specs.Forms.{Affine, dot, value}
use Rattle.affc_rows.proofs.IntLemmas.{add-mul, mul-add, neg-mul}
use Rattle.affc_basis.specs.Slices.{minus}
use Rattle.affc_basis.specs.Moduli.{ArePositive, remainders, IsMultiple, InLattice}

-- ---- quotient and remainder

-- what a division by d gives
pub record Divided (z d : ℤ) : Type 0 where
  pub quotient : ℤ
  pub sums : z ≡ (quotient *ℤ d) +ℤ int_rem_euclid z d
  pub low : pos 0 ≤ℤ int_rem_euclid z d
  pub high : int_rem_euclid z d <ℤ d

sum_of : (a n : ℕ) → 0 < n → a ≡ (a / n) * n + a % n
sum_of a n h = omega arith

below : (a n : ℕ) → 0 < n → a % n < n
below a n h = omega arith

pub divided : (z d : ℤ) → pos 1 ≤ℤ d → Divided z d
divided (pos a) (pos n) h =
    let n_positive : 0 < n = omega (arith, ints) in
    let b = below a n n_positive in
    record { quotient = pos (a / n); sums = ap pos (sum_of a n n_positive); low = omega (arith, ints); high = omega (arith, ints) }
divided (pos a) (negsuc n) h = absurd (omega (arith, ints))
divided (negsuc a) (pos n) h =
    let n_positive : 0 < n = omega (arith, ints) in
    let s = sum_of a n n_positive in
    let b = below a n n_positive in
    let m : ℕ = a / n in
    let product : neg_ℤ (pos (suc m)) *ℤ pos n ≡ neg_ℤ (pos (suc m) *ℤ pos n) = neg-mul (pos (suc m)) (pos n) in
    let rows : suc m * n ≡ m * n + n = omega arith in
    record {
      quotient = neg_ℤ (pos (suc m));
      sums = at_negative a n m (a % n) (suc m * n) s b rows ∙ ap (λ u. u +ℤ pos (n - 1 - a % n)) (sym product);
      low = omega (arith, ints);
      high = omega (arith, ints);
    }
  where
    at_negative : (a n m r t : ℕ) → a ≡ m * n + r → r < n → t ≡ m * n + n → negsuc a ≡ neg_ℤ (pos t) +ℤ pos (n - 1 - r)
    at_negative a n m r t e l f = omega (arith, ints)
divided (negsuc a) (negsuc n) h = absurd (omega (arith, ints))

-- a multiple of d that is smaller than d is 0
small_quotient : (t d : ℤ) (n : ℕ) → pos 1 ≤ℤ d → unsigned_abs d ≡ n → unsigned_abs (t *ℤ d) < n → t *ℤ d ≡ pos 0
small_quotient t d n h e l =
    let product : unsigned_abs (t *ℤ d) ≡ unsigned_abs t * unsigned_abs d = unsigned_abs-mul t d in
    by_size (unsigned_abs t) refl product
  where
    grows : (m n : ℕ) → suc m * n < n → ⊥
    grows m n h = let k : suc m * n ≡ m * n + n = omega arith in omega arith

    by_size : (m : ℕ) → unsigned_abs t ≡ m → unsigned_abs (t *ℤ d) ≡ unsigned_abs t * unsigned_abs d → t *ℤ d ≡ pos 0
    by_size zero s p = let q : unsigned_abs (t *ℤ d) ≡ 0 = p ∙ ap (λ u. u * unsigned_abs d) s ∙ zero_times (unsigned_abs d) in omega (arith, ints, q)
      where
        zero_times : (k : ℕ) → 0 * k ≡ 0
        zero_times k = omega arith
    by_size (suc m) s p = absurd (grows m n (subst (λ u. u < n) (p ∙ ap (λ u. u * unsigned_abs d) s ∙ ap (λ u. suc m * u) e) l))

-- a multiple of a positive d between -d and d is 0
pub small_multiple : (d z : ℤ) → pos 1 ≤ℤ d → IsMultiple d z → pos (unsigned_abs z) <ℤ d → z ≡ pos 0
small_multiple (pos n) z h m l = m.1 ∙ small_quotient m.0 (pos n) n h refl (subst (λ u. unsigned_abs u < n) m.1 (small n z l))
  where
    small : (n : ℕ) (z : ℤ) → pos (unsigned_abs z) <ℤ pos n → unsigned_abs z < n
    small n z h = omega (arith, ints)
small_multiple (negsuc n) z h m l = absurd (omega (arith, ints))

difference_of : (x y p q r s : ℤ) → x ≡ p +ℤ r → y ≡ q +ℤ s → r ≡ s → x -ℤ y ≡ p -ℤ q
difference_of x y p q r s e f g = omega (arith, ints)

sub-mul : (a b c : ℤ) → (a -ℤ b) *ℤ c ≡ (a *ℤ c) -ℤ (b *ℤ c)
sub-mul a b c = add-mul a (neg_ℤ b) c ∙ ap (λ u. (a *ℤ c) +ℤ u) (neg-mul b c)

-- equal remainders, and a multiple between
pub multiple_of_equal : (x y d : ℤ) → pos 1 ≤ℤ d → int_rem_euclid x d ≡ int_rem_euclid y d → IsMultiple d (x -ℤ y)
multiple_of_equal x y d h e =
    let a = divided x d h in
    let b = divided y d h in
    (a.quotient -ℤ b.quotient, difference_of x y (a.quotient *ℤ d) (b.quotient *ℤ d) _ _ a.sums b.sums e ∙ sym (sub-mul a.quotient b.quotient d))

remainders_apart : (x y p q r s m : ℤ) → x ≡ p +ℤ r → y ≡ q +ℤ s → x -ℤ y ≡ m → r -ℤ s ≡ (m -ℤ p) +ℤ q
remainders_apart x y p q r s m e f g = omega (arith, ints)

pub between : (r s d : ℤ) → pos 0 ≤ℤ r → r <ℤ d → pos 0 ≤ℤ s → s <ℤ d → pos (unsigned_abs (r -ℤ s)) <ℤ d
between r s d a b c e = omega (arith, ints)

equal_of_zero : (r s : ℤ) → r -ℤ s ≡ pos 0 → r ≡ s
equal_of_zero r s e = omega (arith, ints)

pub equal_of_multiple : (x y d : ℤ) → pos 1 ≤ℤ d → IsMultiple d (x -ℤ y) → int_rem_euclid x d ≡ int_rem_euclid y d
equal_of_multiple x y d h m =
    let a = divided x d h in
    let b = divided y d h in
    let r : ℤ = int_rem_euclid x d in
    let s : ℤ = int_rem_euclid y d in
    let apart : r -ℤ s ≡ ((m.0 *ℤ d) -ℤ (a.quotient *ℤ d)) +ℤ (b.quotient *ℤ d) = remainders_apart x y (a.quotient *ℤ d) (b.quotient *ℤ d) r s (m.0 *ℤ d) a.sums b.sums m.1 in
    let multiple : r -ℤ s ≡ ((m.0 -ℤ a.quotient) +ℤ b.quotient) *ℤ d =
    apart ∙ ap (λ u. u +ℤ (b.quotient *ℤ d)) (sym (sub-mul m.0 a.quotient d)) ∙ sym (add-mul (m.0 -ℤ a.quotient) b.quotient d) in
    equal_of_zero r s (small_multiple d (r -ℤ s) h (((m.0 -ℤ a.quotient) +ℤ b.quotient), multiple) (between r s d a.low a.high b.low b.high))

-- ---- along a row

no_product : (x : ℤ) → pos 0 ≡ pos 0 -ℤ pos 0
no_product x = refl

one_more : (c x y a b : ℤ) (e : ℤ) → e ≡ a -ℤ b → ((c *ℤ x) +ℤ a) -ℤ ((c *ℤ y) +ℤ b) ≡ ((c *ℤ x) -ℤ (c *ℤ y)) +ℤ e
one_more c x y a b e f = rearranged (c *ℤ x) (c *ℤ y) a b e f
  where
    rearranged : (p q a b e : ℤ) → e ≡ a -ℤ b → (p +ℤ a) -ℤ (q +ℤ b) ≡ (p -ℤ q) +ℤ e
    rearranged p q a b e f = omega (arith, ints)

mul-neg : (c x : ℤ) → c *ℤ neg_ℤ x ≡ neg_ℤ (c *ℤ x)
mul-neg c x = zero_sum (c *ℤ x) (c *ℤ neg_ℤ x) (sym (mul-add c x (neg_ℤ x)) ∙ ap (λ u. c *ℤ u) (cancels x) ∙ times_zero c)
  where
    cancels : (x : ℤ) → x +ℤ neg_ℤ x ≡ pos 0
    cancels x = omega (arith, ints)

    zero_sum : (a b : ℤ) → a +ℤ b ≡ pos 0 → b ≡ neg_ℤ a
    zero_sum a b e = omega (arith, ints)

    times_zero : (c : ℤ) → c *ℤ pos 0 ≡ pos 0
    times_zero c = omega (arith, ints)

mul-sub : (c x y : ℤ) → c *ℤ (x -ℤ y) ≡ (c *ℤ x) -ℤ (c *ℤ y)
mul-sub c x y = mul-add c x (neg_ℤ y) ∙ ap (λ u. (c *ℤ x) +ℤ u) (mul-neg c y)

pub dot-minus : (cs x y : List ℤ) → length x ≡ length y → dot cs (minus x y) ≡ dot cs x -ℤ dot cs y
dot-minus [] x y e = refl
dot-minus (c ∷ cs) [] [] e = refl
dot-minus (c ∷ cs) [] (b ∷ y) e = absurd (omega arith)
dot-minus (c ∷ cs) (a ∷ x) [] e = absurd (omega arith)
dot-minus (c ∷ cs) (a ∷ x) (b ∷ y) e =
    ap (λ u. u +ℤ dot cs (minus x y)) (mul-sub c a b)
    ∙ sym (one_more c a b (dot cs x) (dot cs y) (dot cs (minus x y)) (dot-minus cs x y (omega arith)))

-- ---- places

head_or : ℤ → List ℤ → ℤ
head_or d [] = d
head_or d (x ∷ xs) = x

tail_of : List ℤ → List ℤ
tail_of [] = []
tail_of (x ∷ xs) = xs

pub in_lattice_of_equal : (p : List ℤ) (rows moduli : List Affine) (x y : List ℤ) → ArePositive p moduli → length x ≡ length y
    → remainders p rows moduli x ≡ remainders p rows moduli y → InLattice p rows moduli (minus x y)
unfolding head_or tail_of
in_lattice_of_equal p [] moduli x y positive same e k row b at_k at_b = absurd (none-some row at_k)
in_lattice_of_equal p (r ∷ rows) [] x y positive same e k row b at_k at_b = absurd (none-some b at_b)
in_lattice_of_equal p (r ∷ rows) (m ∷ moduli) x y positive same e zero row b at_k at_b =
    let first : IsMultiple (value m p) (dot r.coefs x -ℤ dot r.coefs y) = multiple_of_equal (dot r.coefs x) (dot r.coefs y) (value m p) (positive zero m refl) (ap (head_or (pos 0)) e) in
    let here : IsMultiple (value m p) (dot r.coefs (minus x y)) = subst (IsMultiple (value m p)) (sym (dot-minus r.coefs x y same)) first in
    subst (λ z. IsMultiple (value z p) (dot row.coefs (minus x y))) (same_Some m b at_b) (subst (λ z. IsMultiple (value m p) (dot z.coefs (minus x y))) (same_Some r row at_k) here)
in_lattice_of_equal p (r ∷ rows) (m ∷ moduli) x y positive same e (suc k) row b at_k at_b =
    in_lattice_of_equal p rows moduli x y (λ j c h. positive (suc j) c h) same (ap tail_of e) k row b at_k at_b

pub equal_of_in_lattice : (p : List ℤ) (rows moduli : List Affine) (x y : List ℤ) → ArePositive p moduli → length x ≡ length y
    → InLattice p rows moduli (minus x y) → remainders p rows moduli x ≡ remainders p rows moduli y
equal_of_in_lattice p [] moduli x y positive same h = refl
equal_of_in_lattice p (r ∷ rows) [] x y positive same h = refl
equal_of_in_lattice p (r ∷ rows) (m ∷ moduli) x y positive same h =
    let first : IsMultiple (value m p) (dot r.coefs x -ℤ dot r.coefs y) = subst (IsMultiple (value m p)) (dot-minus r.coefs x y same) (h zero r m refl refl) in
    ap (λ u. u ∷ remainders p rows moduli x) (equal_of_multiple (dot r.coefs x) (dot r.coefs y) (value m p) (positive zero m refl) first)
    ∙ ap (λ l. int_rem_euclid (dot r.coefs y) (value m p) ∷ l) (equal_of_in_lattice p rows moduli x y (λ j c g. positive (suc j) c g) same (λ k row b f g. h (suc k) row b f g))

-- one component of a place
pub remainder-at : (p : List ℤ) (rows moduli : List Affine) (x : List ℤ) (k : ℕ) (row b : Affine) → slice_get rows k ≡ Some row → slice_get moduli k ≡ Some b
    → slice_get (remainders p rows moduli x) k ≡ Some (int_rem_euclid (dot row.coefs x) (value b p))
remainder-at p [] moduli x k row b e f = absurd (none-some row e)
remainder-at p (r ∷ rows) [] x k row b e f = absurd (none-some b f)
remainder-at p (r ∷ rows) (m ∷ moduli) x zero row b e f =
    ap (λ z. Some (int_rem_euclid (dot z.coefs x) (value m p))) (same_Some r row e) ∙ ap (λ z. Some (int_rem_euclid (dot row.coefs x) (value z p))) (same_Some m b f)
remainder-at p (r ∷ rows) (m ∷ moduli) x (suc k) row b e f = remainder-at p rows moduli x k row b e f
