-- What the definitions give at a small system.
use Rattle.std.proofs.Common.{◌≡◌, zero, suc, List, [], ◌∷◌, take, get_or, ℤ, pos, negsuc, ◌+ℤ◌, ◌≤ℤ◌, ◌<ℤ◌, neg_ℤ, refl, sym, ap, subst, ◌∙◌, inl, inr, arith}
use Rattle.std.proofs.lemmas.Int.{ints}
use Rattle.std.specs.List.{Contains}
use Rattle.std.proofs.lemmas.List.Elements.{All-head, All-tail}
use lib.IntN.{zero-*ℤ}
use Rattle.affc_rows.specs.Forms.{values_of}
use Rattle.affc_rows.proofs.IntLemmas.{one-mul, neg-mul}
use Rattle.affc_system.specs.Systems.{Meets, Met, IsPoint}
use Rattle.affc_system.specs.ElementPairs.{IsPairAt, IsPairOf}
use Rattle.affc_system.specs.Examples.{form, below_n, AreNeighbours, TwoAndThreeAreNeighbours, AlsoTheOtherWayRound, ThreeAndFourNeedAGreaterParameter, NoneIsItsOwnNeighbour, RowsAreMetBelowN}
use Rattle.affc_system.specs.declared.pairs.PairSystem.{PairSystem}
use Rattle.affc_system.proofs.SystemLemmas.{all_from_met}

pub rows_are_met_below_n : RowsAreMetBelowN
rows_are_met_below_n = ((omega (arith, ints), (omega (arith, ints), tt)), λ m. omega (arith, ints, m.1))

-- i and i + 1 are neighbours at n where i is one of its points
neighbours : (s : PairSystem) → AreNeighbours s → (n i x y : ℤ) → Met (n ∷ i ∷ []) below_n.rows
    → values_of (form (pos 0) (pos 1) (pos 0) ∷ []) (n ∷ i ∷ []) ≡ x ∷ [] → values_of (form (pos 0) (pos 1) (pos 1) ∷ []) (n ∷ i ∷ []) ≡ y ∷ []
    → IsPairAt s (n ∷ []) (x ∷ []) (y ∷ [])
neighbours s a n i x y m e f = record {
  point = n ∷ i ∷ [];
  meets = subst (λ r. IsPoint r (n ∷ i ∷ [])) (sym a.points) (record { width = refl; meets = all_from_met (n ∷ i ∷ []) below_n.rows m });
  parameters = refl;
  first = subst (λ fs. values_of fs (n ∷ i ∷ []) ≡ x ∷ []) (sym a.first) e;
  second = subst (λ fs. values_of fs (n ∷ i ∷ []) ≡ y ∷ []) (sym a.second) f;
}

two_three : (s : PairSystem) → AreNeighbours s → IsPairAt s (pos 3 ∷ []) (pos 2 ∷ []) (pos 3 ∷ [])
two_three s a = neighbours s a (pos 3) (pos 2) (pos 2) (pos 3) (omega (arith, ints), (omega (arith, ints), tt)) refl refl

pub two_and_three : TwoAndThreeAreNeighbours
two_and_three s a = record { system = s; there = (0, omega arith, refl); either = inl (two_three s a) }

pub the_other_way_round : AlsoTheOtherWayRound
the_other_way_round s a = record { system = s; there = (0, omega arith, refl); either = inr (two_three s a) }

-- ---- And no others

record AreNext (p x y : ℤ) : Type 0 where
  low : pos 0 ≤ℤ x
  high : x <ℤ p
  next : y ≡ x +ℤ pos 1

numbers : (n i p x y zn on oi ni : ℤ) → zn ≡ pos 0 → on ≡ n → oi ≡ i → ni ≡ neg_ℤ i → n ≡ p → (zn +ℤ (oi +ℤ pos 0)) +ℤ pos 0 ≡ x
    → (zn +ℤ (oi +ℤ pos 0)) +ℤ pos 1 ≡ y → pos 0 ≤ℤ ((zn +ℤ (oi +ℤ pos 0)) +ℤ pos 0) → pos 0 ≤ℤ ((on +ℤ (ni +ℤ pos 0)) +ℤ negsuc 0) → AreNext p x y
numbers n i p x y zn on oi ni z o oo nn e f g low high =
    record { low = omega (arith, ints); high = omega (arith, ints); next = omega (arith, ints) }

only : (point : List ℤ) (p x y : ℤ) → IsPoint below_n point → take 1 point ≡ p ∷ [] → values_of (form (pos 0) (pos 1) (pos 0) ∷ []) point ≡ x ∷ []
    → values_of (form (pos 0) (pos 1) (pos 1) ∷ []) point ≡ y ∷ [] → AreNext p x y
only [] p x y h t e f = absurd (omega (arith, h.width))
only (n ∷ []) p x y h t e f = absurd (omega (arith, h.width))
only (n ∷ i ∷ j ∷ js) p x y h t e f = absurd (omega (arith, h.width))
only (n ∷ i ∷ []) p x y h t e f =
    let first = All-head (Meets (n ∷ i ∷ [])) (form (pos 0) (pos 1) (pos 0)) (form (pos 1) (negsuc 0) (negsuc 0) ∷ []) h.meets in
    let second = All-head (Meets (n ∷ i ∷ [])) (form (pos 1) (negsuc 0) (negsuc 0)) [] (All-tail (Meets (n ∷ i ∷ [])) (form (pos 0) (pos 1) (pos 0)) (form (pos 1) (negsuc 0) (negsuc 0) ∷ []) h.meets) in
    numbers n i p x y _ _ _ _ (zero-*ℤ n) (one-mul n) (one-mul i) (neg-mul (pos 1) i ∙ ap neg_ℤ (one-mul i)) (ap (λ xs. get_or xs 0 n) t) (ap (λ xs. get_or xs 0 x) e) (ap (λ xs. get_or xs 0 y) f) first second

at_neighbours : (s : PairSystem) (p x y : ℤ) → AreNeighbours s → IsPairAt s (p ∷ []) (x ∷ []) (y ∷ []) → AreNext p x y
at_neighbours s p x y a h = only h.point p x y (subst (λ r. IsPoint r h.point) a.points h.meets) h.parameters
    (subst (λ fs. values_of fs h.point ≡ x ∷ []) a.first h.first) (subst (λ fs. values_of fs h.point ≡ y ∷ []) a.second h.second)

one : (s t : PairSystem) → Contains (s ∷ []) t → s ≡ t
one s t (zero, lt, e) = e
one s t (suc k, lt, e) = absurd (omega (arith, lt))

apart : (s : PairSystem) (p x y : ℤ) → AreNeighbours s → (AreNext p x y → ⊥) → (AreNext p y x → ⊥) → IsPairOf (s ∷ []) (p ∷ []) (x ∷ []) (y ∷ []) → ⊥
apart s p x y a not_first not_second h =
    let b = subst AreNeighbours (one s h.system h.there) a in
    elim h.either [ inl k ↦ not_first (at_neighbours h.system p x y b k) | inr k ↦ not_second (at_neighbours h.system p y x b k) ]

pub three_and_four : ThreeAndFourNeedAGreaterParameter
three_and_four s a = (
  record { system = s; there = (0, omega arith, refl); either = inl (neighbours s a (pos 4) (pos 3) (pos 3) (pos 4) (omega (arith, ints), (omega (arith, ints), tt)) refl refl) },
  apart s (pos 3) (pos 3) (pos 4) a (λ h. omega (arith, ints, h.high)) (λ h. omega (arith, ints, h.high)),
)

pub none_is_its_own : NoneIsItsOwnNeighbour
none_is_its_own s a = apart s (pos 3) (pos 2) (pos 2) a (λ h. omega (arith, ints, h.next)) (λ h. omega (arith, ints, h.next))
