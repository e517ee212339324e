-- The entries of sums of multiples.
use Rattle.std.proofs.Common.{◌≡◌, ℕ, zero, suc, ◌+◌, ◌^◌, ◌<◌, ◌≤◌, List, [], ◌∷◌, ◌++◌, length, map, neg_ℤ, true, false, drop, replicate, slice_index_or, ℤ, pos, negsuc, ◌+ℤ◌, ◌*ℤ◌, refl, sym, ap, subst, ◌∙◌, arith, add-one}
use Rattle.std.proofs.Math.Seq.{drop-cons}
use Rattle.std.proofs.lemmas.Int.{ints}
use Rattle.std.proofs.lemmas.List.Elements.{All-drop, All-tail, All-head, All-map, All-nil, All-cons}
use Rattle.std.specs.Prelude.{unsigned_abs}
use Rattle.std.specs.List.{All}
use lib.IntN.{+ℤ_assoc}
use Rattle.affc_rows.specs.Forms.{Affine, mixed, mixed_form}
use Rattle.affc_rows.proofs.IntLemmas.{one-mul}
use Rattle.affc_system.specs.Systems.{IsRow}
use Rattle.affc_farkas.specs.Multiples.{zero_row, row_at, multiple_sum, entry_of}
use Rattle.affc_farkas.specs.Chain.{frame_row}
use Rattle.affc_farkas.proofs.Sound.{multiple_sum-width}

mixed-at : (s : ℤ) (cs : List ℤ) (k : ℤ) (t : ℤ) (ds : List ℤ) (l : ℤ) (j : ℕ) → length cs ≡ length ds → j ≤ length cs
    → slice_index_or (mixed s cs t ds ++ ((s *ℤ k) +ℤ (t *ℤ l)) ∷ []) j (pos 0) ≡ (s *ℤ slice_index_or (cs ++ k ∷ []) j (pos 0)) +ℤ (t *ℤ slice_index_or (ds ++ l ∷ []) j (pos 0))
mixed-at s [] k t [] l zero h i = refl
mixed-at s [] k t [] l (suc j) h i = absurd (omega arith)
mixed-at s [] k t (d ∷ ds) l j h i = absurd (omega arith)
mixed-at s (c ∷ cs) k t [] l j h i = absurd (omega arith)
mixed-at s (c ∷ cs) k t (d ∷ ds) l zero h i = refl
mixed-at s (c ∷ cs) k t (d ∷ ds) l (suc j) h i = mixed-at s cs k t ds l j (omega arith) (omega arith)

pub entry_of-mixed : (s : ℤ) (f : Affine) (t : ℤ) (g : Affine) (j : ℕ) → length f.coefs ≡ length g.coefs → j ≤ length f.coefs
    → entry_of (mixed_form s f t g) j ≡ (s *ℤ entry_of f j) +ℤ (t *ℤ entry_of g j)
entry_of-mixed s f t g j h i = mixed-at s f.coefs f.constant t g.coefs g.constant j h i

constant-at : (cs : List ℤ) (k : ℤ) → slice_index_or (cs ++ k ∷ []) (length cs) (pos 0) ≡ k
constant-at [] k = refl
constant-at (c ∷ cs) k = constant-at cs k

pub entry_of-constant : (f : Affine) (n : ℕ) → length f.coefs ≡ n → entry_of f n ≡ f.constant
entry_of-constant f n h = ap (entry_of f) (sym h) ∙ constant-at f.coefs f.constant

-- one multiple of the sum of what is left
pub sum-drop : (columns : ℕ) (rows : List Affine) (by : List (ℕ × ℕ)) (i j : ℕ) → All (IsRow columns) rows → All (λ p. p.0 < length rows) by → j ≤ columns → i < length by
    → entry_of (multiple_sum columns rows (drop i by)) j
    ≡ (pos (slice_index_or by i (0, 0)).1 *ℤ entry_of (row_at columns rows (slice_index_or by i (0, 0)).0) j) +ℤ entry_of (multiple_sum columns rows (drop (i + 1) by)) j
sum-drop columns rows by i j fit there le lt =
    let p = slice_index_or by i (0, 0) in
    let q = drop (suc i) by in
    let w = (fit p.0 (zero_row columns) (there i (0, 0) lt)).width in
    let u = multiple_sum-width columns rows q fit (All-drop (λ r. r.0 < length rows) (suc i) by there) in
    let e = ap (λ l. entry_of (multiple_sum columns rows l) j) (drop-cons by i (0, 0) lt) in
    let m = entry_of-mixed (pos p.1) (row_at columns rows p.0) (pos 1) (multiple_sum columns rows q) j (w ∙ sym u) (subst (λ n. j ≤ n) (sym w) le) in
    let o = one-mul (entry_of (multiple_sum columns rows q) j) in
    rw add-one (e ∙ m ∙ ap (λ z. (pos p.1 *ℤ entry_of (row_at columns rows p.0) j) +ℤ z) o)

pub zeros-at : (n j : ℕ) → slice_index_or (replicate n (pos 0) ++ pos 0 ∷ []) j (pos 0) ≡ pos 0
zeros-at zero zero = refl
zeros-at zero (suc j) = refl
zeros-at (suc n) zero = refl
zeros-at (suc n) (suc j) = zeros-at n j

ended : (a b w : ℤ) → b ≡ pos 0 → a +ℤ b ≡ w → a ≡ w
ended a b w z e = omega (arith, ints)

pub part_step : (new old term left rest whole : ℤ) → new ≡ old +ℤ term → left ≡ term +ℤ rest → old +ℤ left ≡ whole → new +ℤ rest ≡ whole
part_step new old term left rest whole n l w = ap (λ z. z +ℤ rest) n ∙ +ℤ_assoc old term rest ∙ ap (λ z. old +ℤ z) (sym l) ∙ w

-- the entry after the coefficients is the constant
pub sum_constant : (columns : ℕ) (rows : List Affine) (by : List (ℕ × ℕ)) → All (IsRow columns) rows → All (λ p. p.0 < length rows) by
    → entry_of (multiple_sum columns rows by) columns ≡ (multiple_sum columns rows by).constant
sum_constant columns rows by fit there = entry_of-constant (multiple_sum columns rows by) columns (multiple_sum-width columns rows by fit there)

abs-neg : (c : ℤ) → unsigned_abs (neg_ℤ c) ≡ unsigned_abs c
abs-neg (pos zero) = refl
abs-neg (pos (suc n)) = refl
abs-neg (negsuc n) = refl

negated-small : (cs : List ℤ) → All (λ c. unsigned_abs c ≤ 2 ^ 40) cs → All (λ c. unsigned_abs c ≤ 2 ^ 40) (map neg_ℤ cs)
negated-small cs h = All-map (λ c. unsigned_abs c ≤ 2 ^ 40) neg_ℤ cs (λ k d lt. subst (λ n. n ≤ 2 ^ 40) (sym (abs-neg (slice_index_or cs k d))) (h k d lt))

small-negated : (cs : List ℤ) → All (λ c. unsigned_abs c ≤ 2 ^ 40) (map neg_ℤ cs) → All (λ c. unsigned_abs c ≤ 2 ^ 40) cs
small-negated [] h = All-nil (λ c. unsigned_abs c ≤ 2 ^ 40)
small-negated (c ∷ cs) h = All-cons (λ z. unsigned_abs z ≤ 2 ^ 40) c cs
    (subst (λ n. n ≤ 2 ^ 40) (abs-neg c) (All-head (λ z. unsigned_abs z ≤ 2 ^ 40) (neg_ℤ c) (map neg_ℤ cs) h))
    (small-negated cs (All-tail (λ z. unsigned_abs z ≤ 2 ^ 40) (neg_ℤ c) (map neg_ℤ cs) h))

len-negated : (cs : List ℤ) → length (map neg_ℤ cs) ≡ length cs
len-negated [] = refl
len-negated (c ∷ cs) = ap suc (len-negated cs)

-- negated coefficients keep the limits
pub negated_row : (columns : ℕ) (form : Affine) (k : ℤ) → IsRow columns (frame_row form false k) → IsRow columns (frame_row form true k)
negated_row columns form k h = record {
  width = len-negated form.coefs ∙ h.width;
  fits = record { coefs_fit = negated-small form.coefs h.fits.coefs_fit; constant_fits = h.fits.constant_fits };
}

pub plain_row : (columns : ℕ) (form : Affine) (k : ℤ) → IsRow columns (frame_row form true k) → IsRow columns (frame_row form false k)
plain_row columns form k h = record {
  width = sym (len-negated form.coefs) ∙ h.width;
  fits = record { coefs_fit = small-negated form.coefs h.fits.coefs_fit; constant_fits = h.fits.constant_fits };
}
