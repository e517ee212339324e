-- Counting spans by their ends.
use Rattle.std.proofs.Common.{◌≡◌, ◌≢◌, ℕ, ◌+◌, ◌<◌, ◌≤◌, Bool, true, false, nat_eq, List, length, get_or, take, set, refl, sym, ap, subst, ◌∙◌, ◌⊎◌, inl, inr, arith, true≢false}
use Rattle.std.specs.List.{All, count_by}
use Rattle.std.proofs.lemmas.Bool.{eqb-true, eq-eqb}
use Rattle.std.proofs.lemmas.List.{get_or-set_same, get_or-set_other, length-set, length-take-le}
use Rattle.std.proofs.lemmas.Grind.{get_or_default_zero}
use Rattle.std.proofs.lemmas.List.Elements.{All-get_or}
use Rattle.std.proofs.lemmas.List.Sums.{count_by_more_no, count_by_more_yes, count_by-le-length}
use Rattle.affc_floor.specs.declared.span.Span.{Span}
use Rattle.affc_floor.specs.Spans.{IsWithin, IsTally}

eq_cases : (a b : ℕ) → (a ≡ b) ⊎ (a ≢ b)
eq_cases a b = by_test (nat_eq a b) refl
  where
    by_test : (t : Bool) → nat_eq a b ≡ t → (a ≡ b) ⊎ (a ≢ b)
    by_test true e = inl (eqb-true a b e)
    by_test false e = inr (λ q. true≢false (sym (eq-eqb a b q) ∙ e))

differ : (a b : ℕ) → a ≢ b → nat_eq a b ≡ false
differ a b n = by_test (nat_eq a b) refl
  where
    by_test : (t : Bool) → nat_eq a b ≡ t → t ≡ false
    by_test true e = absurd (n (eqb-true a b e))
    by_test false e = refl

module _ (field : Span → ℕ) (instants : ℕ) (spans : List Span) where
  abbrev at : ℕ → Span → Bool
  at i s = nat_eq (field s) i

  -- one more span, which ends at j
  pub one_more-by : (counts : List ℕ) (k j c : ℕ) (d : Span) → k < length spans → field (get_or spans k d) ≡ j → j < instants → c ≡ get_or counts j 0 + 1
      → IsTally (λ i s. nat_eq (field s) i) instants (take k spans) counts → IsTally (λ i s. nat_eq (field s) i) instants (take (k + 1) spans) (set counts j c)
  one_more-by counts k j c d h e l m t = record {
    long = length-set counts j c ∙ t.long;
    each = λ i g. elim (eq_cases i j) [
      | inl q ↦
          let there : j < length counts = subst (λ n. j < n) (sym t.long) l in
          let yes : nat_eq (field (get_or spans k d)) i ≡ true = eq-eqb (field (get_or spans k d)) i (e ∙ sym q) in
          ap (λ n. get_or (set counts j c) n 0) q ∙ get_or-set_same counts j c 0 there ∙ m ∙ ap (λ n. n + 1) (ap (λ n. get_or counts n 0) (sym q) ∙ t.each i g)
          ∙ sym (count_by_more_yes (at i) spans k d h yes)
      | inr q ↦
          let no : nat_eq (field (get_or spans k d)) i ≡ false = differ (field (get_or spans k d)) i (λ r. q (sym r ∙ e)) in
          get_or-set_other counts j i c 0 q ∙ t.each i g ∙ sym (count_by_more_no (at i) spans k d h no)
    ];
  }

  pub none_more-by : (counts : List ℕ) (k : ℕ) (d : Span) → k < length spans → instants ≤ field (get_or spans k d)
      → IsTally (λ i s. nat_eq (field s) i) instants (take k spans) counts → IsTally (λ i s. nat_eq (field s) i) instants (take (k + 1) spans) counts
  none_more-by counts k d h l t = record {
    long = t.long;
    each = λ i g.
        let no : nat_eq (field (get_or spans k d)) i ≡ false = differ (field (get_or spans k d)) i (λ r. past (field (get_or spans k d)) i l g r) in
        t.each i g ∙ sym (count_by_more_no (at i) spans k d h no);
  }
    where
      past : (f i : ℕ) → instants ≤ f → i < instants → f ≡ i → ⊥
      past f i h g e = omega arith

  -- no more than were looked at
  pub at_most : (counts : List ℕ) (k j : ℕ) → k ≤ length spans → j < instants → IsTally (λ i s. nat_eq (field s) i) instants (take k spans) counts → get_or counts j 0 ≤ k
  at_most counts k j h l t =
      let few : count_by (at j) (take k spans) ≤ length (take k spans) = count_by-le-length (at j) (take k spans) in
      let long : length (take k spans) ≡ k = length-take-le k spans h in
      let is : get_or counts j 0 ≡ count_by (at j) (take k spans) = t.each j l in
      omega arith

pub from_within : (instants : ℕ) (spans : List Span) (k : ℕ) (d : Span) → All (IsWithin instants) spans → k < length spans → (get_or spans k d).from < instants
from_within instants spans k d all h = let w : IsWithin instants (get_or spans k d) = All-get_or (IsWithin instants) spans k d h all in below (get_or spans k d) w
  where
    below : (s : Span) → IsWithin instants s → s.from < instants
    below s w = let a = w.some in let b = w.ends in omega arith

-- what stands in a tally
pub tallied : (test : ℕ → Span → Bool) (instants : ℕ) (spans : List Span) (counts : List ℕ) (i r : ℕ) → IsTally test instants spans counts → i < instants → r ≡ get_or counts i r → r ≡ count_by (test i) spans
tallied test instants spans counts i r t h e =
    e ∙ get_or_default_zero counts i r (subst (λ n. i < n) (sym t.long) h) ∙ t.each i h
