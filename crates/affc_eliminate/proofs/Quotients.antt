-- Sums of two products and their quotients, over whole numbers.
use Rattle.std.proofs.Common.{◌≡◌, ◌⊎◌, List, [], ◌∷◌, ◌++◌, length, get_or, to_z, of_z, ℕ, zero, suc, ◌+◌, ◌*◌, ◌^◌, ◌<◌, ◌≤◌, ℤ, pos, negsuc, neg_ℤ, ◌+ℤ◌, ◌*ℤ◌, ◌≤ℤ◌, ◌<ℤ◌, refl, sym, ap, subst, ◌∙◌, inl, inr, arith}
use Rattle.std.specs.Prelude.{unsigned_abs, FitsSigned}
use Rattle.std.specs.Int.{w128}
use Rattle.std.proofs.lemmas.Bool.{cases_lt}
use Rattle.std.proofs.lemmas.List.{get_or_append_left, get_or_push}
use Rattle.std.specs.Int.RustNames.{int_div, int_rem}
use Rattle.std.proofs.lemmas.Int.{ints, to_z-of_z, quot-rem, rem_below, unsigned_abs-mul}
use lib.IntN.{*ℤ_comm}
use Rattle.affc_rows.proofs.IntLemmas.{mul-add}
use Rattle.affc_eliminate.specs.Mixtures.{PassesSigned}
use Rattle.affc_eliminate.proofs.Rooms.{mul-neg}

-- ---- Products by sign

turned : (p q : ℕ) → neg_ℤ (pos p) +ℤ pos q ≡ pos q +ℤ neg_ℤ (pos p)
turned p q = omega (arith, ints)

-- ---- Sums that pass

far_below : (p q : ℕ) → p + 2 ^ 128 ≤ q → (pos p +ℤ neg_ℤ (pos q)) <ℤ neg_ℤ (pos (2 ^ 127))
far_below p q h = omega (arith, ints)

pub above_is : (p q v : ℕ) → v + q ≡ p → pos p +ℤ neg_ℤ (pos q) ≡ pos v
above_is p q v e = omega (arith, ints)

pub below_is : (p q v : ℕ) → v + p ≡ q → pos p +ℤ neg_ℤ (pos q) ≡ neg_ℤ (pos v)
below_is p q v e = omega (arith, ints)

-- ---- The difference of two products by their halves

-- ---- Exact quotients

rest_is : (v r a dq : ℤ) → v +ℤ r ≡ a → dq ≡ a → r ≡ dq +ℤ neg_ℤ v
rest_is v r a dq h e = omega (arith, ints)

abs_zero : (r : ℤ) → unsigned_abs r ≡ 0 → r ≡ pos 0
abs_zero (pos zero) e = refl
abs_zero (pos (suc n)) e = absurd (omega arith)
abs_zero (negsuc n) e = absurd (omega arith)

no_rest : (v r a : ℤ) → v +ℤ r ≡ a → unsigned_abs r ≡ 0 → v ≡ a
no_rest v r a h e = omega (arith, ints, abs_zero r e)

small_multiple : (d n m : ℕ) → n ≡ d * m → n < d → n ≡ 0
small_multiple d n zero e h = omega arith
small_multiple d n (suc m) e h = absurd (omega arith)

-- what a number divides is the number times the quotient
pub exact_quotient : (d : ℕ) (q a : ℤ) → 1 ≤ d → pos d *ℤ q ≡ a → pos d *ℤ int_div a (pos d) ≡ a
exact_quotient d q a one e =
    let v = int_div a (pos d) in
    let r = int_rem a (pos d) in
    let whole : (pos d *ℤ v) +ℤ r ≡ a = ap (λ z. z +ℤ r) (*ℤ_comm (pos d) v) ∙ quot-rem a (pos d) in
    let multiple : r ≡ pos d *ℤ (q +ℤ neg_ℤ v) = rest_is (pos d *ℤ v) r a (pos d *ℤ q) whole e ∙ ap (λ z. (pos d *ℤ q) +ℤ z) (sym (mul-neg (pos d) v)) ∙ sym (mul-add (pos d) q (neg_ℤ v)) in
    no_rest (pos d *ℤ v) r a whole
    (small_multiple d (unsigned_abs r) (unsigned_abs (q +ℤ neg_ℤ v)) (ap unsigned_abs multiple ∙ unsigned_abs-mul (pos d) (q +ℤ neg_ℤ v)) (rem_below a (pos d) one))

-- ---- Entries as the code passes them

pub through : (s : ℕ) (a : ℤ) (t : ℕ) (b x y : ℤ) → FitsSigned w128 a → FitsSigned w128 b → a ≡ x → b ≡ y
    → (pos s *ℤ to_z w128 (of_z w128 a)) +ℤ (pos t *ℤ to_z w128 (of_z w128 b)) ≡ (pos s *ℤ x) +ℤ (pos t *ℤ y)
through s a t b x y fa fb ea eb =
    ap (λ z. (pos s *ℤ z) +ℤ (pos t *ℤ to_z w128 (of_z w128 b))) (to_z-of_z w128 a fa ∙ ea) ∙ ap (λ z. (pos s *ℤ x) +ℤ (pos t *ℤ z)) (to_z-of_z w128 b fb ∙ eb)

-- one entry more
pub quotients_more : (divisor : ℕ) (entry : ℕ → ℤ) (old new : List ℤ) (column : ℕ) (part : ℤ) → length old ≡ column → new ≡ old ++ part ∷ []
    → ((j : ℕ) → j < column → pos divisor *ℤ get_or old j (pos 0) ≡ entry j) → pos divisor *ℤ part ≡ entry column
    → (j : ℕ) → j < column + 1 → pos divisor *ℤ get_or new j (pos 0) ≡ entry j
quotients_more divisor entry old new column part l e h k j lt =
    ap (λ xs. pos divisor *ℤ get_or xs j (pos 0)) e
    ∙ elim (cases_lt j column) [
      | inl m ↦ ap (λ z. pos divisor *ℤ z) (get_or_append_left old (part ∷ []) (pos 0) j (subst (λ n. j < n) (sym l) m)) ∙ h j m
      | inr m ↦ let same : column ≡ j = omega arith in ap (λ z. pos divisor *ℤ z) (get_or_push old part (pos 0) j (l ∙ same)) ∙ k ∙ ap entry same
    ]
