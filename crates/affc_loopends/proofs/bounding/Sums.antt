-- The rows that stand for weights: sums of the system's rows.
use Rattle.std.proofs.Common.{◌≡◌, ℕ, zero, suc, ◌+◌, ◌*◌, ◌<◌, ◌≤◌, List, [], ◌∷◌, length, map, get_or, set, replicate, ℤ, pos, ◌+ℤ◌, ◌*ℤ◌, refl, sym, ap, subst, ◌∙◌, inl, inr, arith}
use Rattle.std.proofs.lemmas.Int.{ints}
use Rattle.std.proofs.lemmas.Bool.{cases_lt}
use Rattle.std.proofs.lemmas.List.{get_or_append_left, get_or_push, length-map}
use lib.IntN.{*ℤ-zero, zero-*ℤ}
use Rattle.affc_rows.specs.Forms.{Affine, dot, mixed}
use Rattle.affc_rows.proofs.IntLemmas.{mul-add, mul_assoc, one-mul}
use Rattle.affc_rows.proofs.ValueLemmas.{dot-mixed}
use Rattle.affc_farkas.specs.Multiples.{entry_of}
use Rattle.affc_farkas.specs.Eliminations.{combined, mixed_weights, own}

-- the sums' coefficients in so many columns, from column j on
abbrev pub coefficients_from : List Affine → List ℕ → (j count : ℕ) → List ℤ
coefficients_from rows ws j zero = []
coefficients_from rows ws j (suc count) = combined rows ws j ∷ coefficients_from rows ws (suc j) count

-- the sum of the multiples of rows over so many columns, with a weight for each
abbrev pub sum_of : (columns : ℕ) → List Affine → List ℕ → Affine
sum_of columns rows ws = record { coefs = coefficients_from rows ws 0 columns; constant = combined rows ws columns }

coefficients_long : (rows : List Affine) (ws : List ℕ) (j count : ℕ) → length (coefficients_from rows ws j count) ≡ count
coefficients_long rows ws j zero = refl
coefficients_long rows ws j (suc count) = ap suc (coefficients_long rows ws (suc j) count)

pub sum_wide : (columns : ℕ) (rows : List Affine) (ws : List ℕ) → length (sum_of columns rows ws).coefs ≡ columns
sum_wide columns rows ws = coefficients_long rows ws 0 columns

same_place : (j : ℕ) → j ≡ j + 0
same_place j = omega arith

next_place : (j k : ℕ) → suc j + k ≡ j + suc k
next_place j k = omega arith

coefficient_at : (rows : List Affine) (ws : List ℕ) (j count k : ℕ) → k < count → get_or (coefficients_from rows ws j count) k (pos 0) ≡ combined rows ws (j + k)
coefficient_at rows ws j zero k lt = absurd (omega arith)
coefficient_at rows ws j (suc count) zero lt = ap (combined rows ws) (same_place j)
coefficient_at rows ws j (suc count) (suc k) lt = coefficient_at rows ws (suc j) count k (omega arith) ∙ ap (combined rows ws) (next_place j k)

no_further : (j n : ℕ) → j ≤ n → n ≤ j → n ≡ j
no_further j n h k = omega arith

from_zero : (j : ℕ) → 0 + j ≡ j
from_zero j = omega arith

pub sum_entry : (columns : ℕ) (rows : List Affine) (ws : List ℕ) (j : ℕ) → j ≤ columns → entry_of (sum_of columns rows ws) j ≡ combined rows ws j
sum_entry columns rows ws j le =
    let cs = coefficients_from rows ws 0 columns in
    let long = coefficients_long rows ws 0 columns in
    elim (cases_lt j columns) [
      | inl lt ↦ get_or_append_left cs (combined rows ws columns ∷ []) (pos 0) j (subst (λ n. j < n) (sym long) lt) ∙ coefficient_at rows ws 0 columns j lt ∙ ap (combined rows ws) (from_zero j)
      | inr ge ↦
          let e = no_further j columns le ge in
          get_or_push cs (combined rows ws columns) (pos 0) j (long ∙ e) ∙ ap (combined rows ws) e
    ]

-- ---- Mixed weights

one_weight : (s w t v : ℕ) → pos (s * w + t * v) ≡ (pos s *ℤ pos w) +ℤ (pos t *ℤ pos v)
one_weight s w t v = omega (arith, ints)

signed_mixed : (s : ℕ) (ws : List ℕ) (t : ℕ) (vs : List ℕ) → map pos (mixed_weights s ws t vs) ≡ mixed (pos s) (map pos ws) (pos t) (map pos vs)
signed_mixed s [] t vs = refl
signed_mixed s (w ∷ ws) t [] = refl
signed_mixed s (w ∷ ws) t (v ∷ vs) = ap (λ z. z ∷ map pos (mixed_weights s ws t vs)) (one_weight s w t v) ∙ ap (λ zs. ((pos s *ℤ pos w) +ℤ (pos t *ℤ pos v)) ∷ zs) (signed_mixed s ws t vs)

pub combined_mixed : (rows : List Affine) (s : ℕ) (ws : List ℕ) (t : ℕ) (vs : List ℕ) (j : ℕ) → length ws ≡ length rows → length vs ≡ length rows
    → combined rows (mixed_weights s ws t vs) j ≡ (pos s *ℤ combined rows ws j) +ℤ (pos t *ℤ combined rows vs j)
combined_mixed rows s ws t vs j l m =
    let es = map (λ row. entry_of row j) rows in
    let long : length es ≡ length rows = length-map rows (λ row. entry_of row j) in
    let first : length (map pos ws) ≡ length rows = length-map ws pos ∙ l in
    let second : length (map pos vs) ≡ length rows = length-map vs pos ∙ m in
    ap (λ zs. dot zs es) (signed_mixed s ws t vs) ∙ dot-mixed (pos s) (map pos ws) (pos t) (map pos vs) es (first ∙ sym second) (first ∙ sym long)

-- ---- Multiplied weights

one_product : (d w : ℕ) → pos (d * w) ≡ pos d *ℤ pos w
one_product d w = omega (arith, ints)

multiplied : (d : ℕ) (ws : List ℕ) (es : List ℤ) → dot (map pos (map (λ w. d * w) ws)) es ≡ pos d *ℤ dot (map pos ws) es
multiplied d [] es = sym (*ℤ-zero (pos d))
multiplied d (w ∷ ws) [] = sym (*ℤ-zero (pos d))
multiplied d (w ∷ ws) (e ∷ es) =
    ap (λ z. (z *ℤ e) +ℤ dot (map pos (map (λ w. d * w) ws)) es) (one_product d w) ∙ ap (λ z. z +ℤ dot (map pos (map (λ w. d * w) ws)) es) (mul_assoc (pos d) (pos w) e)
    ∙ ap (λ z. (pos d *ℤ (pos w *ℤ e)) +ℤ z) (multiplied d ws es) ∙ sym (mul-add (pos d) (pos w *ℤ e) (dot (map pos ws) es))

pub combined_multiplied : (rows : List Affine) (d : ℕ) (ws : List ℕ) (j : ℕ) → combined rows (map (λ w. d * w) ws) j ≡ pos d *ℤ combined rows ws j
combined_multiplied rows d ws j = multiplied d ws (map (λ row. entry_of row j) rows)

-- ---- A row's own weights

no_weights : (n : ℕ) (es : List ℤ) → dot (map pos (replicate n 0)) es ≡ pos 0
no_weights zero es = refl
no_weights (suc n) [] = refl
no_weights (suc n) (e ∷ es) = ap (λ z. z +ℤ dot (map pos (replicate n 0)) es) (zero-*ℤ e) ∙ ap (λ z. pos 0 +ℤ z) (no_weights n es)

with_nothing : (a b : ℤ) → b ≡ pos 0 → a +ℤ b ≡ a
with_nothing a b e = omega (arith, ints)

nothing_with : (a b : ℤ) → a ≡ pos 0 → a +ℤ b ≡ b
nothing_with a b e = omega (arith, ints)

own_weights : (es : List ℤ) (i : ℕ) → i < length es → dot (map pos (set (replicate (length es) 0) i 1)) es ≡ get_or es i (pos 0)
own_weights [] i lt = absurd (omega arith)
own_weights (e ∷ es) zero lt = with_nothing (pos 1 *ℤ e) (dot (map pos (replicate (length es) 0)) es) (no_weights (length es) es) ∙ one-mul e
own_weights (e ∷ es) (suc i) lt = nothing_with (pos 0 *ℤ e) (dot (map pos (set (replicate (length es) 0) i 1)) es) (zero-*ℤ e) ∙ own_weights es i (omega arith)

pub combined_own : (rows : List Affine) (i j : ℕ) → i < length rows → combined rows (own (length rows) i) j ≡ get_or (map (λ row. entry_of row j) rows) i (pos 0)
combined_own rows i j lt =
    let es = map (λ row. entry_of row j) rows in
    let long : length es ≡ length rows = length-map rows (λ row. entry_of row j) in
    ap (λ n. dot (map pos (own n i)) es) (sym long) ∙ own_weights es i (subst (λ n. i < n) (sym long) lt)
