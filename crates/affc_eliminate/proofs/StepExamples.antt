-- The examples of rows with multipliers, and of a step.
use Rattle.std.proofs.Common.{◌≡◌, ◌≢◌, ◌⊎◌, ℕ, zero, suc, ◌+◌, ◌*◌, ◌^◌, ◌<◌, ◌≤◌, false, List, [], ◌∷◌, ◌++◌, length, get_or, ℤ, pos, negsuc, ◌+ℤ◌, ◌*ℤ◌, ◌≤ℤ◌, ◌<ℤ◌, neg_ℤ, refl, sym, ap, subst, ◌∙◌, inl, inr, arith}
use Rattle.std.specs.List.{All, Contains}
use Rattle.std.specs.Int.{IsGcd}
use Prim.Native.Nat.{◌∣◌}
use Rattle.std.proofs.lemmas.Int.{ints}
use Rattle.std.proofs.lemmas.Bool.Decides.{nat_tests}
use Rattle.std.proofs.lemmas.Nat.Gcd.{dvd-zero, dvd_antisymm, le_of_dvd}
use Rattle.std.proofs.Math.Nat.{dvd-mul_right, one-dvd}
use Rattle.std.proofs.lemmas.List.Elements.{All-nil, All-cons, All-head, All-contains}
use Rattle.affc_rows.specs.Forms.{Affine, HaveColumns}
use Rattle.affc_farkas.specs.Multiples.{multiple_sum, entry_of}
use Rattle.affc_farkas.specs.Eliminations.{AreFactors}
use Rattle.affc_farkas.specs.declared.pair.Pair.{Pair}
use Rattle.affc_eliminate.specs.Points.{IsTrivial}
use Rattle.affc_rows.specs.Vocabulary.{opposite}
use Rattle.affc_eliminate.specs.Screens.{HasSameSlope}
use Rattle.affc_eliminate.specs.Mixtures.{AreSumsOf, weight_of, mixed_weight, IsGreatest, IsMixture, IsWide, WeightPasses, PassesSigned, EntryPasses}
use Rattle.affc_eliminate.specs.Steps.{EachTwo, AreNumbered, AreScreened, HasOpposite, AreReady, IsNext, AddEach, none, more, AreEliminated}
use Rattle.affc_eliminate.specs.Examples.{plane, given, kept, Weights, SumsOfGiven, twice, four, InLeastTerms, SignsOfTwo, steep, WideRows, first_rows, pair, SlopeAnswers, last_rows, last_pairs, XIsEliminated, NotOtherwise, NoPairTwice, Places}
use Rattle.affc_eliminate.specs.declared.kept.Kept.{Kept}
use Rattle.affc_eliminate.proofs.ExampleProofs.{two_rows_are_left, ten_does_not_extend}
use Rattle.affc_eliminate.proofs.Sieves.{two_none, two_push}
use Rattle.affc_eliminate.proofs.Added.{added_sums, added_numbers}
use Rattle.std.proofs.lemmas.Bool.{false≢true}
use Rattle.std.proofs.lemmas.List.{length_push, same_from_push}
use Rattle.affc_farkas.specs.Rational.{scaled_value}

pub weights : Weights
weights = (refl, refl, refl)

one : (P : Kept → Type 0) (k : Kept) → P k → All P (k ∷ [])
one P k h = All-cons P k [] h (All-nil P)

four_of : {X : Type 0} (P : X → Type 0) (a b c d : X) → P a → P b → P c → P d → All P (a ∷ b ∷ c ∷ d ∷ [])
four_of P a b c d ha hb hc hd = All-cons P a (b ∷ c ∷ d ∷ []) ha (All-cons P b (c ∷ d ∷ []) hb (All-cons P c (d ∷ []) hc (All-cons P d [] hd (All-nil P))))

two_planes : HaveColumns 2 given
two_planes = four_of (λ (f : Affine). length f.coefs ≡ 2) (plane (pos 1) (negsuc 0) (pos 0)) (plane (negsuc 0) (pos 1) (pos 0)) (plane (pos 1) (pos 0) (negsuc 1)) (plane (negsuc 0) (pos 0) (pos 9)) refl refl refl refl

few_given : length given ≤ 1024
few_given = omega arith

abbrev Named : List (ℕ × ℕ) → Type 0
Named by = All (λ p. p.0 < 1024) by

two_named : (a b : ℕ × ℕ) → a.0 < 1024 → b.0 < 1024 → Named (a ∷ b ∷ [])
two_named a b ha hb = All-cons (λ p. p.0 < 1024) a (b ∷ []) ha (All-cons (λ p. p.0 < 1024) b [] hb (All-nil (λ p. p.0 < 1024)))

one_named : (a : ℕ × ℕ) → a.0 < 1024 → Named (a ∷ [])
one_named a ha = All-cons (λ p. p.0 < 1024) a [] ha (All-nil (λ p. p.0 < 1024))

not_minus_four : negsuc 1 ≡ negsuc 3 → ⊥
not_minus_four e = absurd (omega (arith, ints))

abbrev sum_row : Kept
sum_row = kept (plane (pos 0) (pos 1) (negsuc 1)) ((1, 1) ∷ (2, 1) ∷ []) 4

abbrev other_row : Kept
other_row = kept (plane (pos 0) (pos 1) (negsuc 1)) ((1, 1) ∷ (2, 2) ∷ []) 4

abbrev unnamed_row : Kept
unnamed_row = kept (plane (pos 0) (pos 0) (pos 0)) ((1024, 1) ∷ []) 4

pub sums_of_given : SumsOfGiven
sums_of_given = (
  record {
    few = few_given;
    widths = two_planes;
    sums = one (λ k. k.row ≡ multiple_sum 2 given k.from) sum_row refl;
    named = one (λ k. Named k.from) sum_row (two_named (1, 1) (2, 1) (omega arith) (omega arith));
  },
  (λ h. not_minus_four (ap (λ (f : Affine). f.constant) (h.sums 0 other_row (omega arith)))),
  (λ h. let n : 1024 < 1024 = h.named 0 unnamed_row (omega arith) 0 (0, 0) (omega arith) in absurd (omega arith)),
)

-- ---- Least terms

greatest_of : (a b d : ℕ) → d ∣ a → d ∣ b → ((k : ℕ) → k ∣ a → k ∣ b → k ∣ d) → IsGcd a b d
greatest_of a b d h k g = (h, k, g)

gcd_two_one : IsGcd 2 1 1
gcd_two_one = greatest_of 2 1 1 (one-dvd 2) (one-dvd 1) (λ k h l. l)

gcd_one_two : IsGcd 1 2 1
gcd_one_two = greatest_of 1 2 1 (one-dvd 1) (one-dvd 2) (λ k h l. h)

gcd_one_one : IsGcd 1 1 1
gcd_one_one = greatest_of 1 1 1 (one-dvd 1) (one-dvd 1) (λ k h l. h)

abbrev three : Kept
three = kept (plane (pos 0) (pos 0) (pos 3)) ((0, 1) ∷ (1, 1) ∷ []) 2

abbrev six : Kept
six = kept (plane (pos 0) (pos 0) (pos 6)) ((0, 2) ∷ (1, 2) ∷ []) 2

three_entries : (j : ℕ) → j ≤ 2 → pos 2 *ℤ entry_of three.row j ≡ (pos 1 *ℤ entry_of twice.row j) +ℤ (pos 2 *ℤ entry_of four.row j)
three_entries zero h = refl
three_entries (suc zero) h = refl
three_entries (suc (suc zero)) h = refl
three_entries (suc (suc (suc j))) h = absurd (omega arith)

three_weights : (i : ℕ) → 2 * weight_of three.from i ≡ mixed_weight 1 twice.from 2 four.from i
three_weights i = grind (arith, nat_tests)

three_greatest : IsGreatest 2 (mixed_weight 1 twice.from 2 four.from)
three_greatest = record {
  divides = λ i. subst (λ z. 2 ∣ z) (three_weights i) (dvd-mul_right 2 (weight_of three.from i));
  greatest = λ k h. h 0;
}

three_mixed : IsMixture 0 twice four three
three_mixed = record {
  rows = record {
    s = 1;
    t = 2;
    divisor = 2;
    above = omega (arith, ints);
    below = omega (arith, ints);
    factors = record { divisor = 1; greatest = gcd_two_one; first = refl; second = refl };
    positive = omega arith;
    width = refl;
    entries = three_entries;
  };
  greatest = three_greatest;
  weights = three_weights;
}

one_factor : (g s : ℕ) → g * s ≡ 1 → s ≡ 1
one_factor g zero e = absurd (omega arith)
one_factor g (suc zero) e = refl
one_factor zero (suc (suc s)) e = absurd (omega arith)
one_factor (suc g) (suc (suc s)) e = absurd (omega arith)

turn : (d a b : ℕ) → a ≡ 2 * b → d * a ≡ 2 * (d * b)
turn d a b e = let u = ap (λ z. d * z) e in omega arith

even_six : (d i : ℕ) → d * weight_of six.from i ≡ 2 * (d * weight_of three.from i)
even_six d i = turn d (weight_of six.from i) (weight_of three.from i) (grind (arith, nat_tests))

same_divisor : (d s t : ℕ) → d * 2 ≡ s * 2 + t * 0 → s ≡ 1 → d ≡ 1
same_divisor d s t e h = omega arith

not_undivided : IsMixture 0 twice four six → ⊥
not_undivided m =
    let s : m.rows.s ≡ 1 = one_factor m.rows.factors.divisor m.rows.s m.rows.factors.first in
    let d : m.rows.divisor ≡ 1 = same_divisor m.rows.divisor m.rows.s m.rows.t (m.weights 0) s in
    let h : 2 ∣ m.rows.divisor = m.greatest.greatest 2 (λ i. subst (λ z. 2 ∣ z) (sym (even_six m.rows.divisor i) ∙ m.weights i) (dvd-mul_right 2 (m.rows.divisor * weight_of three.from i))) in
    let positive : 0 < m.rows.divisor = omega arith in
    let l = le_of_dvd positive h in absurd (omega arith)

pub in_least_terms : InLeastTerms
in_least_terms = (three_mixed, not_undivided)

pub signs_of_two : SignsOfTwo
signs_of_two new m = let h : pos 0 <ℤ negsuc 0 = m.rows.above in absurd (omega (arith, ints))

-- ---- Wide rows

abbrev far : Kept
far = kept (plane (pos 1) (pos 0) (pos 0)) ((0, 2 ^ 53) ∷ []) 0

abbrev high : Kept
high = kept (plane (pos 1) (pos 0) (pos (2 ^ 126))) ((0, 1) ∷ []) 0

abbrev near : Kept
near = kept (plane (pos 1) (pos 0) (pos 0)) ((0, 1) ∷ []) 0

steep_factors : AreFactors 1 2 2 1
steep_factors = record { divisor = 1; greatest = gcd_one_two; first = refl; second = refl }

far_greatest : IsGreatest 1 (mixed_weight 2 far.from 1 steep.from)
far_greatest = record { divides = λ i. one-dvd (mixed_weight 2 far.from 1 steep.from i); greatest = λ k h. h 1 }

far_wide : IsWide 0 far steep
far_wide = record { s = 2; t = 1; factors = steep_factors; passes = inl (inr (1, 0, 2 ^ 54, far_greatest, refl, omega arith)) }

abbrev huge : Kept
huge = kept (plane (pos 1) (pos 0) (pos 0)) ((0, 2 ^ 126) ∷ []) 0

abbrev huge_steep : Kept
huge_steep = kept (plane (negsuc 1) (pos 0) (pos 1)) ((0, 2 ^ 126) ∷ []) 1

huge_wide : IsWide 0 huge huge_steep
huge_wide = record { s = 2; t = 1; factors = steep_factors; passes = inl (inl (0, omega arith)) }

high_wide : IsWide 0 high steep
high_wide = record { s = 2; t = 1; factors = steep_factors; passes = inr (2, omega arith, inr (omega (arith, ints))) }

near_weight : (i : ℕ) → mixed_weight 1 near.from 1 four.from i ≤ 1
near_weight i = grind (arith, nat_tests)

one_bound : (w d q : ℕ) → w ≤ 1 → w ≡ d * q → 1 ≤ d → 2 ^ 53 < q → ⊥
one_bound w zero q h e p l = absurd (omega arith)
one_bound w (suc d) q h e p l = absurd (omega arith)

divisor_one : (d : ℕ) → d ∣ 1 → 1 ≤ d
divisor_one zero h = let e = dvd_antisymm (dvd-zero 1) h in absurd (omega arith)
divisor_one (suc d) h = omega arith

near_weights : WeightPasses (mixed_weight 1 near.from 1 four.from) → ⊥
near_weights h = elim h [
  | inl k ↦ let l = near_weight k.0 in let m = k.1 in absurd (omega arith)
  | inr k ↦ one_bound (mixed_weight 1 near.from 1 four.from k.1) k.0 k.2 (near_weight k.1) k.4 (divisor_one k.0 (k.3.divides 0)) k.5
]

near_entry : (j : ℕ) → j ≤ 2 → PassesSigned ((pos 1 *ℤ entry_of near.row j) +ℤ (pos 1 *ℤ entry_of four.row j)) → ⊥
near_entry zero h p = elim p [ inl k ↦ absurd (omega (arith, ints)) | inr k ↦ absurd (omega (arith, ints)) ]
near_entry (suc zero) h p = elim p [ inl k ↦ absurd (omega (arith, ints)) | inr k ↦ absurd (omega (arith, ints)) ]
near_entry (suc (suc zero)) h p = elim p [ inl k ↦ absurd (omega (arith, ints)) | inr k ↦ absurd (omega (arith, ints)) ]
near_entry (suc (suc (suc j))) h p = absurd (omega arith)

near_entries : EntryPasses 1 near.row 1 four.row → ⊥
near_entries h = near_entry h.0 h.1 h.2

pub wide_rows : WideRows
wide_rows = (
  far_wide,
  huge_wide,
  high_wide,
  (λ w.
      let s : w.s ≡ 1 = one_factor w.factors.divisor w.s w.factors.first in
      let t : w.t ≡ 1 = one_factor w.factors.divisor w.t w.factors.second in
      elim w.passes [
        | inl h ↦ near_weights (subst (λ a. WeightPasses (mixed_weight a near.from 1 four.from)) s (subst (λ b. WeightPasses (mixed_weight w.s near.from b four.from)) t h))
        | inr h ↦ near_entries (subst (λ a. EntryPasses a near.row 1 four.row) s (subst (λ b. EntryPasses w.s near.row b four.row) t h))
      ]),
)

-- ---- A step

abbrev row0 : Kept
row0 = kept (plane (pos 1) (negsuc 0) (pos 0)) ((0, 1) ∷ []) 0

abbrev row1 : Kept
row1 = kept (plane (negsuc 0) (pos 1) (pos 0)) ((1, 1) ∷ []) 1

abbrev row2 : Kept
row2 = kept (plane (pos 1) (pos 0) (negsuc 1)) ((2, 1) ∷ []) 2

abbrev row3 : Kept
row3 = kept (plane (negsuc 0) (pos 0) (pos 9)) ((3, 1) ∷ []) 3

abbrev row4 : Kept
row4 = kept (plane (pos 0) (pos 1) (negsuc 1)) ((1, 1) ∷ (2, 1) ∷ []) 4

abbrev row5 : Kept
row5 = kept (plane (pos 0) (negsuc 0) (pos 9)) ((0, 1) ∷ (3, 1) ∷ []) 5

abbrev Differ : Kept → Kept → Type 0
Differ k q = k.number ≢ q.number

differ : (k q : Kept) → (k.number ≡ q.number → ⊥) → Differ k q × Differ q k
differ k q h = (h, λ e. h (sym e))

-- each two of four rows
two_of_four : (R : Kept → Kept → Type 0) (a b c d : Kept) → R a b × R b a → R a c × R c a → R b c × R c b → R a d × R d a → R b d × R d b → R c d × R d c → EachTwo R (a ∷ b ∷ c ∷ d ∷ [])
two_of_four R a b c d ab ac bc ad bd cd =
    two_push R (a ∷ b ∷ c ∷ []) d
    (two_push R (a ∷ b ∷ []) c (two_push R (a ∷ []) b (two_push R [] a (two_none R) (All-nil (λ z. R z a × R a z))) (one (λ z. R z b × R b z) a ab))
    (All-cons (λ z. R z c × R c z) a (b ∷ []) ac (one (λ z. R z c × R c z) b bc)))
    (All-cons (λ z. R z d × R d z) a (b ∷ c ∷ []) ad (All-cons (λ z. R z d × R d z) b (c ∷ []) bd (one (λ z. R z d × R d z) c cd)))

two_of_two : (R : Kept → Kept → Type 0) (a b : Kept) → R a b × R b a → EachTwo R (a ∷ b ∷ [])
two_of_two R a b ab = two_push R (a ∷ []) b (two_push R [] a (two_none R) (All-nil (λ z. R z a × R a z))) (one (λ z. R z b × R b z) a ab)

numbered : AreNumbered first_rows
numbered = two_of_four Differ row0 row1 row2 row3
    (differ row0 row1 (λ e. absurd (omega arith))) (differ row0 row2 (λ e. absurd (omega arith))) (differ row1 row2 (λ e. absurd (omega arith)))
    (differ row0 row3 (λ e. absurd (omega arith))) (differ row1 row3 (λ e. absurd (omega arith))) (differ row2 row3 (λ e. absurd (omega arith)))

first_sums : AreSumsOf 2 given first_rows
first_sums = record {
  few = few_given;
  widths = two_planes;
  sums = four_of (λ k. k.row ≡ multiple_sum 2 given k.from) row0 row1 row2 row3 refl refl refl refl;
  named = four_of (λ k. Named k.from) row0 row1 row2 row3 (one_named (0, 1) (omega arith)) (one_named (1, 1) (omega arith)) (one_named (2, 1) (omega arith)) (one_named (3, 1) (omega arith));
}

pub ready : AreReady first_rows 0 4
ready = record {
  columns = 2;
  widths = two_planes;
  column_in = omega arith;
  few = omega arith;
  numbered = numbered;
  below = four_of (λ k. k.number < 4) row0 row1 row2 row3 (omega arith) (omega arith) (omega arith) (omega arith);
  free_small = omega arith;
  base = given;
  sums = first_sums;
}

ones : AreFactors 1 1 1 1
ones = record { divisor = 1; greatest = gcd_one_one; first = refl; second = refl }

entries4 : (j : ℕ) → j ≤ 2 → pos 1 *ℤ entry_of row4.row j ≡ (pos 1 *ℤ entry_of row2.row j) +ℤ (pos 1 *ℤ entry_of row1.row j)
entries4 zero h = refl
entries4 (suc zero) h = refl
entries4 (suc (suc zero)) h = refl
entries4 (suc (suc (suc j))) h = absurd (omega arith)

entries5 : (j : ℕ) → j ≤ 2 → pos 1 *ℤ entry_of row5.row j ≡ (pos 1 *ℤ entry_of row0.row j) +ℤ (pos 1 *ℤ entry_of row3.row j)
entries5 zero h = refl
entries5 (suc zero) h = refl
entries5 (suc (suc zero)) h = refl
entries5 (suc (suc (suc j))) h = absurd (omega arith)

weights4 : (i : ℕ) → 1 * weight_of row4.from i ≡ mixed_weight 1 row2.from 1 row1.from i
weights4 i = grind (arith, nat_tests)

weights5 : (i : ℕ) → 1 * weight_of row5.from i ≡ mixed_weight 1 row0.from 1 row3.from i
weights5 i = grind (arith, nat_tests)

mixture4 : IsMixture 0 row2 row1 row4
mixture4 = record {
  rows = record { s = 1; t = 1; divisor = 1; above = omega (arith, ints); below = omega (arith, ints); factors = ones; positive = omega arith; width = refl; entries = entries4 };
  greatest = record { divides = λ i. one-dvd (mixed_weight 1 row2.from 1 row1.from i); greatest = λ k h. h 1 };
  weights = weights4;
}

mixture5 : IsMixture 0 row0 row3 row5
mixture5 = record {
  rows = record { s = 1; t = 1; divisor = 1; above = omega (arith, ints); below = omega (arith, ints); factors = ones; positive = omega arith; width = refl; entries = entries5 };
  greatest = record { divides = λ i. one-dvd (mixed_weight 1 row0.from 1 row3.from i); greatest = λ k h. h 0 };
  weights = weights5;
}

first_next : IsNext first_rows 0 [] (pair 2 1) row2 row1
first_next = record {
  first_in = (2, omega arith, refl);
  second_in = (1, omega arith, refl);
  names = refl;
  positive = omega (arith, ints);
  negative = omega (arith, ints);
  other = All-nil (λ q. q ≢ pair 2 1);
}

not_both_numbers : (a : ℕ) → a ≡ 2 → a ≡ 0 → ⊥
not_both_numbers a h k = absurd (omega arith)

other_pair : pair 2 1 ≢ pair 0 3
other_pair e = not_both_numbers 2 refl (ap (λ (p : Pair). p.first) e)

second_next : IsNext first_rows 0 (pair 2 1 ∷ []) (pair 0 3) row0 row3
second_next = record {
  first_in = (0, omega arith, refl);
  second_in = (3, omega arith, refl);
  names = refl;
  positive = omega (arith, ints);
  negative = omega (arith, ints);
  other = All-cons (λ q. q ≢ pair 0 3) (pair 2 1) [] other_pair (All-nil (λ q. q ≢ pair 0 3));
}

add_each : AddEach first_rows 0 4 last_pairs last_rows
add_each = more (pair 2 1 ∷ []) (row4 ∷ []) (pair 0 3) row0 row3 row5 (more [] [] (pair 2 1) row2 row1 row4 none first_next mixture4 refl) second_next mixture5 refl

two_all : (P : Kept → Type 0) → P row4 → P row5 → All P last_rows
two_all P a b = All-cons P row4 (row5 ∷ []) a (one P row5 b)

apart_slopes : HasSameSlope row4.row row5.row → ⊥
apart_slopes h = let e : pos 1 ≡ negsuc 0 = ap (λ cs. get_or cs 1 (pos 0)) h.0 in absurd (omega (arith, ints))

slopes_apart : HasSameSlope row5.row row4.row → ⊥
slopes_apart h = let e : negsuc 0 ≡ pos 1 = ap (λ cs. get_or cs 1 (pos 0)) h.0 in absurd (omega (arith, ints))

answers_false : (f g : Affine) → (HasSameSlope f g → ⊥) → SlopeAnswers f g false
answers_false f g h = (λ t. absurd (false≢true t), λ s. absurd (h s))

abbrev Answered : Kept → Kept → Type 0
Answered k q = SlopeAnswers k.row q.row false

screened : AreScreened SlopeAnswers last_rows
screened = two_of_two Answered row4 row5 (answers_false row4.row row5.row apart_slopes, answers_false row5.row row4.row slopes_apart)

not_trivial4 : IsTrivial row4.row → ⊥
not_trivial4 t = let e : pos 1 ≡ pos 0 = t.0 1 (omega arith) in absurd (omega (arith, ints))

not_trivial5 : IsTrivial row5.row → ⊥
not_trivial5 t = let e : negsuc 0 ≡ pos 0 = t.0 1 (omega arith) in absurd (omega (arith, ints))

width_of : (x : List ℤ) → HaveColumns (length x) given → length x ≡ 2
width_of x w = sym (All-head (λ (f : Affine). length f.coefs ≡ length x) (plane (pos 1) (negsuc 0) (pos 0)) (plane (negsuc 0) (pos 1) (pos 0) ∷ plane (pos 1) (pos 0) (negsuc 1) ∷ plane (negsuc 0) (pos 0) (pos 9) ∷ []) w)

eliminated : AreEliminated SlopeAnswers first_rows 0 4 last_rows last_pairs
eliminated = record {
  added = last_rows;
  add_each = add_each;
  given_or_added = two_all (λ k. Contains first_rows k ⊎ Contains last_rows k) (inr (0, omega arith, refl)) (inr (1, omega arith, refl));
  numbered = two_of_two Differ row4 row5 (differ row4 row5 (λ e. absurd (omega arith)));
  zero = two_all (λ k. entry_of k.row 0 ≡ pos 0) refl refl;
  sums = λ columns base s. added_sums first_rows 0 4 columns base add_each s (two_all (λ k. Named k.from) (two_named (1, 1) (2, 1) (omega arith) (omega arith)) (two_named (0, 1) (3, 1) (omega arith) (omega arith)));
  same_points = λ x d w lt one. two_rows_are_left x d (width_of x w) one;
  screened = screened;
  not_more = λ h. omega arith;
  not_trivial = two_all (λ k. IsTrivial k.row → ⊥) not_trivial4 not_trivial5;
}

pub x_is_eliminated : XIsEliminated
x_is_eliminated = (ready, eliminated)

-- ---- And not otherwise

above_six : (k : Kept) → (6 ≤ k.number) × (k.number < 6 + 2) → k.number ≢ 4
above_six k h e = let a = h.0 in absurd (omega arith)

not_six : AreEliminated SlopeAnswers first_rows 0 6 last_rows last_pairs → ⊥
not_six h =
    let n = added_numbers first_rows 0 6 h.add_each in
    elim (h.given_or_added 0 row4 (omega arith)) [
      | inl c ↦ let m = All-contains (λ k. k.number < 4) first_rows row4 ready.below c in absurd (omega arith)
      | inr c ↦ above_six row4 (All-contains (λ k. (6 ≤ k.number) × (k.number < 6 + 2)) h.added row4 n c) refl
    ]

abbrev ten : List ℤ
ten = pos 0 ∷ pos 10 ∷ []

not_one_row : (made : List Pair) → AreEliminated SlopeAnswers first_rows 0 4 (row4 ∷ []) made → ⊥
not_one_row made h =
    ten_does_not_extend ((h.same_points ten (pos 1) two_planes (omega arith) (omega (arith, ints))).0
    (All-cons (λ f. pos 0 ≤ℤ scaled_value f ten (pos 1)) row4.row [] (omega (arith, ints)) (All-nil (λ f. pos 0 ≤ℤ scaled_value f ten (pos 1)))))

not_the_same : (made : List Pair) → AreEliminated SlopeAnswers first_rows 0 4 first_rows made → ⊥
not_the_same made h = let e : pos 1 ≡ pos 0 = h.zero 0 row0 (omega arith) in absurd (omega (arith, ints))

pub not_otherwise : NotOtherwise
not_otherwise = (not_six, not_one_row, not_the_same)

-- the last pair of a list that was made is none of those before it
last_other : (made : List Pair) (p : Pair) {all : List Pair} {added : List Kept} → AddEach first_rows 0 4 all added → all ≡ made ++ p ∷ [] → All (λ q. q ≢ p) made
last_other made p none e = let l = ap length e in let m = length_push made p in absurd (omega arith)
last_other made p (more before added q first second new t n m k) e =
    let both = same_from_push before made q p e in
    subst (λ z. All (λ r. r ≢ z) made) both.1 (subst (λ zs. All (λ r. r ≢ q) zs) both.0 n.other)

pub no_pair_twice : NoPairTwice
no_pair_twice added h = last_other (pair 2 1 ∷ []) (pair 2 1) h refl 0 (pair 2 1) (omega arith) refl

-- ---- Places

same_slope_there : HasSameSlope (plane (pos 1) (pos 0) (negsuc 2)) (plane (pos 1) (pos 0) (negsuc 1))
same_slope_there = (refl, omega (arith, ints))

never_false : SlopeAnswers (plane (pos 1) (pos 0) (negsuc 2)) (plane (pos 1) (pos 0) (negsuc 1)) false → ⊥
never_false a = absurd (false≢true (a.1 same_slope_there))

has_opposite : HasOpposite 0 given
has_opposite = (plane (pos 1) (negsuc 0) (pos 0), (0, omega arith, refl), (1, omega arith, refl), λ e. absurd (omega (arith, ints)))

at_place : (a b f : Affine) (i : ℕ) → i < 2 → get_or (a ∷ b ∷ []) i f ≡ f → (a ≡ f) ⊎ (b ≡ f)
at_place a b f zero lt e = inl e
at_place a b f (suc zero) lt e = inr e
at_place a b f (suc (suc i)) lt e = absurd (omega arith)

either_of : (a b f : Affine) → Contains (a ∷ b ∷ []) f → (a ≡ f) ⊎ (b ≡ f)
either_of a b f c = at_place a b f c.0 c.1 c.2

no_opposite_there : HasOpposite 0 (plane (pos 1) (pos 0) (negsuc 1) ∷ plane (negsuc 0) (pos 0) (pos 9) ∷ []) → ⊥
no_opposite_there h =
    let a = plane (pos 1) (pos 0) (negsuc 1) in
    let b = plane (negsuc 0) (pos 0) (pos 9) in
    let k = λ (f : Affine). f.constant in
    elim (either_of a b h.0 h.1) [
      | inl e ↦ elim (either_of a b (opposite h.0) h.2) [
        | inl o ↦ let u : negsuc 1 ≡ (h.0).constant = ap k e in let v : negsuc 1 ≡ neg_ℤ (h.0).constant = ap k o in absurd (omega (arith, ints))
        | inr o ↦ let u : negsuc 1 ≡ (h.0).constant = ap k e in let v : pos 9 ≡ neg_ℤ (h.0).constant = ap k o in absurd (omega (arith, ints))
      ]
      | inr e ↦ elim (either_of a b (opposite h.0) h.2) [
        | inl o ↦ let u : pos 9 ≡ (h.0).constant = ap k e in let v : negsuc 1 ≡ neg_ℤ (h.0).constant = ap k o in absurd (omega (arith, ints))
        | inr o ↦ let u : pos 9 ≡ (h.0).constant = ap k e in let v : pos 9 ≡ neg_ℤ (h.0).constant = ap k o in absurd (omega (arith, ints))
      ]
    ]

zero_there : HasOpposite 1 (plane (pos 1) (pos 0) (negsuc 1) ∷ plane (negsuc 0) (pos 0) (pos 2) ∷ []) → ⊥
zero_there h = elim (either_of (plane (pos 1) (pos 0) (negsuc 1)) (plane (negsuc 0) (pos 0) (pos 2)) h.0 h.1) [
  | inl e ↦ h.3 (sym (ap (λ (f : Affine). entry_of f 1) e))
  | inr e ↦ h.3 (sym (ap (λ (f : Affine). entry_of f 1) e))
]

place_zero : 0 < 2
place_zero = omega arith

place_one : 1 < 2
place_one = omega arith

apart_places : (a b : ℕ) → a < b → a ≢ b
apart_places a b h e = absurd (omega arith)

places_apart : (a b : ℕ) → a < b → b ≢ a
places_apart a b h e = absurd (omega arith)

zero_one : 0 < 1
zero_one = omega arith

pub places : Places
places = (
  numbered,
  (λ h. h 0 1 row0 place_zero place_one (apart_places 0 1 zero_one) refl),
  screened,
  (λ h. never_false (h 0 1 row0 place_zero place_one (apart_places 0 1 zero_one))),
  (λ h. never_false (h 1 0 row0 place_one place_zero (places_apart 0 1 zero_one))),
  has_opposite,
  no_opposite_there,
  zero_there,
)
