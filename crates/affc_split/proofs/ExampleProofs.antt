-- What the definitions give at small boxes.
use Rattle.std.proofs.Common.{◌≡◌, inl, inr, ℕ, suc, ◌+◌, ◌≤◌, List, [], ◌∷◌, length, ℤ, pos, ◌≤ℤ◌, ◌<ℤ◌, Some, refl, sym, subst, arith}
use Rattle.std.proofs.lemmas.Int.{ints}
use Rattle.std.proofs.lemmas.List.Elements.{All-head, All-tail}
use Rattle.std.specs.List.{All}
use Rattle.affc_system.specs.Boxes.{InBox}
use Rattle.affc_system.specs.Order.{LexLe}
use Rattle.affc_split.specs.Openings.{IsPart, IsUpTo}
use Rattle.affc_split.specs.Examples.{range, PartsLieWithin, NoBoxBehindThePoint, NoBoxBehindTheAnswer, AUnitIsOne, ALeafCostsOneUnit, APartOfFive}

-- ---- Boxes of one column

one_value : (low high : ℤ) (x : List ℤ) → InBox (range low high) x → (y : ℤ) × (x ≡ y ∷ []) × (low ≤ℤ y) × (y ≤ℤ high)
one_value low high [] i = absurd i
one_value low high (y ∷ []) i = (y, refl, i.0, i.1)
one_value low high (y ∷ z ∷ zs) i = absurd i.2

is_within : (y : ℤ) → pos 1 ≤ℤ y → y ≤ℤ pos 2 → (pos 0 ≤ℤ y) × (y ≤ℤ pos 4)
is_within y h k = (omega (arith, ints), omega (arith, ints))

within : IsPart (range (pos 1) (pos 2)) (range (pos 0) (pos 4))
within x i =
    let o = one_value (pos 1) (pos 2) x i in
    let w = is_within o.0 o.2 o.3 in
    subst (λ l. InBox (range (pos 0) (pos 4)) l) (sym o.1) (w.0, w.1, tt)

five_there : InBox (range (pos 0) (pos 5)) (pos 5 ∷ [])
five_there = (omega (arith, ints), omega (arith, ints), tt)

not_five : InBox (range (pos 0) (pos 4)) (pos 5 ∷ []) → ⊥
not_five i = let h : pos 5 ≤ℤ pos 4 = i.1 in omega (arith, ints)

pub parts_lie_within : PartsLieWithin
parts_lie_within = (within, λ h. not_five (h (pos 5 ∷ []) five_there))

below_three : (y : ℤ) → y ≤ℤ pos 2 → y <ℤ pos 3
below_three y h = omega (arith, ints)

before_three : IsUpTo (pos 3 ∷ []) (range (pos 0) (pos 2))
before_three = inr before
  where
    before : (z : List ℤ) → InBox (range (pos 0) (pos 2)) z → LexLe z (pos 3 ∷ [])
    before [] i = absurd i
    before (y ∷ []) i = inl (below_three y i.1)
    before (y ∷ z ∷ zs) i = absurd i.2

with_three : IsUpTo (pos 3 ∷ []) (range (pos 3) (pos 9))
with_three = inl (omega (arith, ints), omega (arith, ints), tt)

not_there : InBox (range (pos 4) (pos 5)) (pos 3 ∷ []) → ⊥
not_there i = let h : pos 4 ≤ℤ pos 3 = i.0 in omega (arith, ints)

five_behind : InBox (range (pos 4) (pos 5)) (pos 5 ∷ [])
five_behind = (omega (arith, ints), omega (arith, ints), tt)

not_less : pos 5 <ℤ pos 3 → ⊥
not_less h = omega (arith, ints)

not_same : pos 5 ≡ pos 3 → ⊥
not_same e = omega (arith, ints)

behind_three : IsUpTo (pos 3 ∷ []) (range (pos 4) (pos 5)) → ⊥
behind_three h = elim h [ inl i ↦ not_there i | inr f ↦ elim (f (pos 5 ∷ []) five_behind) [ inl k ↦ not_less k | inr k ↦ not_same k.0 ] ]

pub no_box_behind_the_point : NoBoxBehindThePoint
no_box_behind_the_point = (before_three, with_three, behind_three)

pub no_box_behind_the_answer : NoBoxBehindTheAnswer
no_box_behind_the_answer v e a =
    let P : List (ℤ × ℤ) → Type 0 = IsUpTo (pos 3 ∷ []) in
    let all : All P (range (pos 0) (pos 9) ∷ range (pos 4) (pos 5) ∷ []) = subst (λ l. All (IsUpTo l) (range (pos 0) (pos 9) ∷ range (pos 4) (pos 5) ∷ [])) e a in
    behind_three (All-head P (range (pos 4) (pos 5)) [] (All-tail P (range (pos 0) (pos 9)) (range (pos 4) (pos 5) ∷ []) all))

-- ---- Budgets of five units

not_four : 3 ≡ 3 + 1 → ⊥
not_four e = omega arith

pub a_unit_is_one : AUnitIsOne
a_unit_is_one = (λ h. not_four (h 5 refl), λ l e. refl)

two_are_too_many : (n : ℕ) → 2 ≡ 0 + n → n ≤ 1 → ⊥
two_are_too_many n e h = omega arith

none_are_too_few : (n : ℕ) → 0 ≡ 0 + suc n → ⊥
none_are_too_few n e = omega arith

pub a_leaf_costs_one_unit : ALeafCostsOneUnit
a_leaf_costs_one_unit whole = (λ o. two_are_too_many _ (o.counted 5 refl) o.needed, λ o. none_are_too_few (length o.others) (o.counted 5 refl))

beyond_four : 5 ≤ 4 → ⊥
beyond_four h = omega arith

beyond_five : 6 ≤ 5 → ⊥
beyond_five h = omega arith

five_or_three : (five three : ℕ) → five ≡ 5 → three ≡ 3 → Some five ≡ Some three → ⊥
five_or_three five three f t e = grind (arith, f, t, e)

two_or_three : (two three : ℕ) → two ≡ 2 → three ≡ 3 → two ≡ three → ⊥
two_or_three two three f t e = omega (arith, f, t, e)

pub a_part_of_five : APartOfFive
a_part_of_five = (λ h. beyond_four h.few, λ h. beyond_five (h.within 5 refl), λ h. five_or_three 5 3 refl refl (h.unspent (omega arith) refl), λ h. two_or_three 2 3 refl refl h.spent)
