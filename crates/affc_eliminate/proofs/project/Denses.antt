-- Multipliers written out as weights for all rows of the system.
use Rattle.std.proofs.Common.{◌≡◌, ℕ, zero, suc, ◌+◌, ◌*◌, ◌<◌, ◌≤◌, List, [], ◌∷◌, length, map, get_or, ℤ, pos, ◌+ℤ◌, ◌*ℤ◌, refl, sym, ap, subst, ◌∙◌, inl, inr, arith}
use Rattle.std.specs.Prelude.{unsigned_abs}
use Rattle.std.specs.List.{All}
use Prim.Native.Nat.{◌∣◌}
use Rattle.std.proofs.lemmas.Int.{ints}
use Rattle.std.proofs.lemmas.Bool.{cases_lt}
use Rattle.std.proofs.lemmas.List.{ext_get_or, get_or-map, length-map}
use Rattle.std.proofs.lemmas.Nat.Gcd.{dvd-zero}
use lib.IntN.{zero-*ℤ}
use Rattle.affc_rows.specs.Forms.{Affine, HaveColumns, dot}
use Rattle.affc_farkas.specs.Multiples.{zero_row, multiple_sum, entry_of, row_at}
use Rattle.affc_farkas.specs.Eliminations.{combined, mixed_weights, AreFactors, IsAdded}
use Rattle.affc_farkas.proofs.Weights.{length-mixed_weights, mixed_weights-at}
use Rattle.affc_eliminate.specs.Mixtures.{weight_of, mixed_weight, IsMixture}
use Rattle.affc_eliminate.specs.declared.kept.Kept.{Kept}
use Rattle.affc_eliminate.proofs.Sums.{upto, upto_same, sum_entry, total_by_weights}
use Rattle.affc_eliminate.specs.project.States.{dense}

pub dense_length : (count i : ℕ) (by : List (ℕ × ℕ)) → length (dense count i by) ≡ count
dense_length zero i by = refl
dense_length (suc count) i by = ap suc (dense_length count (suc i) by)

dense_from : (count i : ℕ) (by : List (ℕ × ℕ)) (k : ℕ) → k < count → get_or (dense count i by) k 0 ≡ weight_of by (i + k)
dense_from zero i by k lt = absurd (omega arith)
dense_from (suc count) i by zero lt = ap (weight_of by) (omega arith)
dense_from (suc count) i by (suc k) lt = dense_from count (suc i) by k (omega arith) ∙ ap (weight_of by) (omega arith)

zero_plus : (k : ℕ) → 0 + k ≡ k
zero_plus k = omega arith

pub dense_at : (count : ℕ) (by : List (ℕ × ℕ)) (k : ℕ) → k < count → get_or (dense count 0 by) k 0 ≡ weight_of by k
dense_at count by k lt = dense_from count 0 by k lt ∙ ap (weight_of by) (zero_plus k)

-- ---- An entry of a sum

add_right : (a b c : ℤ) → (a +ℤ b) +ℤ c ≡ a +ℤ (b +ℤ c)
add_right a b c = omega (arith, ints)

zero_in : (a : ℤ) → pos 0 +ℤ a ≡ a +ℤ pos 0
zero_in a = omega (arith, ints)

plus_nothing : (a b : ℤ) → b ≡ pos 0 → a +ℤ b ≡ a
plus_nothing a b e = omega (arith, ints)

upto_front : (m : ℕ) (f : ℕ → ℤ) → upto (suc m) f ≡ f 0 +ℤ upto m (λ n. f (suc n))
upto_front zero f = zero_in (f 0)
upto_front (suc m) f = ap (λ z. z +ℤ f (suc m)) (upto_front m f) ∙ add_right (f 0) (upto m (λ n. f (suc n))) (f (suc m))

-- where the later numbers are 0
upto_part : (m n : ℕ) (f : ℕ → ℤ) → n ≤ m → ((i : ℕ) → n ≤ i → f i ≡ pos 0) → upto m f ≡ upto n f
upto_part zero n f le h = let e : 0 ≡ n = omega arith in ap (λ k. upto k f) e
upto_part (suc m) n f le h = elim (cases_lt m n) [
  | inl lt ↦ let e : suc m ≡ n = omega arith in ap (λ k. upto k f) e
  | inr ge ↦ plus_nothing (upto m f) (f m) (h m ge) ∙ upto_part m n f ge h
]

shifted : (i k : ℕ) → suc i + k ≡ i + suc k
shifted i k = omega arith

same_place : (i : ℕ) → i ≡ i + 0
same_place i = omega arith

dense_dot : (es : List ℤ) (i : ℕ) (by : List (ℕ × ℕ)) → dot (map pos (dense (length es) i by)) es ≡ upto (length es) (λ k. pos (weight_of by (i + k)) *ℤ get_or es k (pos 0))
dense_dot [] i by = refl
dense_dot (e ∷ es) i by =
    let at : ℕ → ℤ = λ k. pos (weight_of by (i + k)) *ℤ get_or (e ∷ es) k (pos 0) in
    ap (λ z. (pos (weight_of by i) *ℤ e) +ℤ z) (dense_dot es (suc i) by
    ∙ upto_same (length es) (λ k. pos (weight_of by (suc i + k)) *ℤ get_or es k (pos 0)) (λ k. at (suc k)) (λ k lt. ap (λ z. pos (weight_of by z) *ℤ get_or es k (pos 0)) (shifted i k)))
    ∙ ap (λ z. (pos (weight_of by z) *ℤ e) +ℤ upto (length es) (λ k. at (suc k))) (same_place i)
    ∙ sym (upto_front (length es) at)

no_weight : (w : ℕ) (e : ℤ) → w ≡ 0 → pos w *ℤ e ≡ pos 0
no_weight w e z = ap (λ v. pos v *ℤ e) z ∙ zero-*ℤ e

-- an entry of a row that is a sum, by its weights written out
pub combined_dense : (columns : ℕ) (rows : List Affine) (by : List (ℕ × ℕ)) (f : Affine) (j : ℕ) → HaveColumns columns rows → length rows ≤ 1024 → All (λ p. p.0 < 1024) by
    → ((i : ℕ) → length rows ≤ i → weight_of by i ≡ 0) → f ≡ multiple_sum columns rows by → j ≤ columns → combined rows (dense (length rows) 0 by) j ≡ entry_of f j
combined_dense columns rows by f j w few named within sum le =
    let es = map (λ r. entry_of r j) rows in
    let l : length es ≡ length rows = length-map rows (λ r. entry_of r j) in
    let e : ℕ → ℤ = λ n. entry_of (row_at columns rows n) j in
    ap (λ n. dot (map pos (dense n 0 by)) es) (sym l)
    ∙ dense_dot es 0 by
    ∙ ap (λ n. upto n (λ k. pos (weight_of by (0 + k)) *ℤ get_or es k (pos 0))) l
    ∙ upto_same (length rows) (λ k. pos (weight_of by (0 + k)) *ℤ get_or es k (pos 0)) (λ k. pos (weight_of by k) *ℤ e k)
    (λ k lt. ap (λ z. pos (weight_of by z) *ℤ get_or es k (pos 0)) (zero_plus k) ∙ ap (λ z. pos (weight_of by k) *ℤ z) (get_or-map (λ r. entry_of r j) rows k (zero_row columns) (pos 0) lt))
    ∙ sym (upto_part 1024 (length rows) (λ k. pos (weight_of by k) *ℤ e k) few (λ i ge. no_weight (weight_of by i) (e i) (within i ge)))
    ∙ sym (total_by_weights 1024 e by named)
    ∙ sym (sum_entry columns rows by j w le)
    ∙ ap (λ r. entry_of r j) (sym sum)

-- ---- The row of a pair has the weights that the definition of an elimination wants

nothing_of : (s t : ℕ) → s * 0 + t * 0 ≡ 0
nothing_of s t = omega arith

-- where neither row has a weight, the mixture has none
pub none_past : (first second : List (ℕ × ℕ)) (s t i : ℕ) → weight_of first i ≡ 0 → weight_of second i ≡ 0 → mixed_weight s first t second i ≡ 0
none_past first second s t i h k = ap (λ z. s * z + t * weight_of second i) h ∙ ap (λ z. s * 0 + t * z) k ∙ nothing_of s t

no_product : (d w : ℕ) → 1 ≤ d → d * w ≡ 0 → w ≡ 0
no_product (suc d) zero one e = refl
no_product (suc d) (suc w) one e = absurd (omega arith)
no_product zero w one e = absurd (omega arith)

pub mixture_within : (column count : ℕ) (first second new : Kept) → IsMixture column first second new → ((i : ℕ) → count ≤ i → weight_of first.from i ≡ 0) → ((i : ℕ) → count ≤ i → weight_of second.from i ≡ 0)
    → (i : ℕ) → count ≤ i → weight_of new.from i ≡ 0
mixture_within column count first second new m h k i ge =
    no_product m.rows.divisor (weight_of new.from i) m.rows.positive (m.weights i ∙ none_past first.from second.from m.rows.s m.rows.t i (h i ge) (k i ge))

-- the mixed weights, one by one
pub dense_mixed_length : (count : ℕ) (first second : List (ℕ × ℕ)) (s t : ℕ) → length (mixed_weights s (dense count 0 first) t (dense count 0 second)) ≡ count
dense_mixed_length count first second s t =
    length-mixed_weights s (dense count 0 first) t (dense count 0 second) (dense_length count 0 first ∙ sym (dense_length count 0 second)) ∙ dense_length count 0 first

pub dense_mixed_at : (count : ℕ) (first second : List (ℕ × ℕ)) (s t k : ℕ) → k < count → get_or (mixed_weights s (dense count 0 first) t (dense count 0 second)) k 0 ≡ mixed_weight s first t second k
dense_mixed_at count first second s t k lt =
    let F = dense count 0 first in
    let S = dense count 0 second in
    mixed_weights-at s F t S k (dense_length count 0 first ∙ sym (dense_length count 0 second)) (subst (λ z. k < z) (sym (dense_length count 0 first)) lt)
    ∙ ap (λ z. s * z + t * get_or S k 0) (dense_at count first k lt)
    ∙ ap (λ z. s * weight_of first k + t * z) (dense_at count second k lt)

-- what divides each of them divides the multipliers
pub divides_mixed : (count : ℕ) (first second : List (ℕ × ℕ)) (s t k : ℕ) → ((i : ℕ) → count ≤ i → weight_of first i ≡ 0) → ((i : ℕ) → count ≤ i → weight_of second i ≡ 0)
    → All (λ w. k ∣ w) (mixed_weights s (dense count 0 first) t (dense count 0 second)) → (i : ℕ) → k ∣ mixed_weight s first t second i
divides_mixed count first second s t k wf ws h i = elim (cases_lt i count) [
  | inl lt ↦ subst (λ z. k ∣ z) (dense_mixed_at count first second s t i lt) (h i 0 (subst (λ z. i < z) (sym (dense_mixed_length count first second s t)) lt))
  | inr ge ↦ subst (λ z. k ∣ z) (sym (none_past first second s t i (wf i ge) (ws i ge))) (dvd-zero k)
]

pub factors_dense : (columns : ℕ) (rows : List Affine) (column s t : ℕ) (first second : Kept) (x y : ℤ) → entry_of first.row column ≡ x → entry_of second.row column ≡ y
    → AreFactors (unsigned_abs (entry_of first.row column)) (unsigned_abs (entry_of second.row column)) s t → AreFactors (unsigned_abs x) (unsigned_abs y) s t
factors_dense columns rows column s t first second x y ex ey h =
    subst (λ z. AreFactors (unsigned_abs z) (unsigned_abs y) s t) ex (subst (λ z. AreFactors (unsigned_abs (entry_of first.row column)) (unsigned_abs z) s t) ey h)

pub dense_added : (columns : ℕ) (rows : List Affine) (column : ℕ) (first second new : Kept)
    → combined rows (dense (length rows) 0 first.from) column ≡ entry_of first.row column → combined rows (dense (length rows) 0 second.from) column ≡ entry_of second.row column
    → ((i : ℕ) → length rows ≤ i → weight_of first.from i ≡ 0) → ((i : ℕ) → length rows ≤ i → weight_of second.from i ≡ 0) → IsMixture column first second new
    → IsAdded rows column (dense (length rows) 0 first.from) (dense (length rows) 0 second.from) (dense (length rows) 0 new.from)
dense_added columns rows column first second new ef es wf ws m =
    let n = length rows in
    let N = dense n 0 new.from in
    let s = m.rows.s in
    let t = m.rows.t in
    let d = m.rows.divisor in
    let ln : length N ≡ n = dense_length n 0 new.from in
    let mixed_length = dense_mixed_length n first.from second.from s t in
    record {
      s = s;
      t = t;
      factors = factors_dense columns rows column s t first second (combined rows (dense n 0 first.from) column) (combined rows (dense n 0 second.from) column) (sym ef) (sym es) m.rows.factors;
      divided = record {
        divisor = d;
        positive = m.rows.positive;
        greatest = λ k h. m.greatest.greatest k (divides_mixed n first.from second.from s t k wf ws h);
        quotients = ext_get_or 0 (map (λ w. d * w) N) (mixed_weights s (dense n 0 first.from) t (dense n 0 second.from)) (length-map N (λ w. d * w) ∙ ln ∙ sym mixed_length) (λ k lt.
            let lt' : k < n = subst (λ z. k < z) (length-map N (λ w. d * w) ∙ ln) lt in
            get_or-map (λ w. d * w) N k 0 0 (subst (λ z. k < z) (sym ln) lt')
            ∙ ap (λ z. d * z) (dense_at n new.from k lt')
            ∙ m.weights k ∙ sym (dense_mixed_at n first.from second.from s t k lt'));
      };
    }
