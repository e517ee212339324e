-- Which parts of a small box are its fronts, and which columns are pinned.
use Rattle.std.proofs.Common.{◌≡◌, inl, inr, ℕ, zero, suc, ◌<◌, [], ◌∷◌, ℤ, pos, negsuc, ◌+ℤ◌, ◌*ℤ◌, ◌≤ℤ◌, ◌<ℤ◌, refl, arith}
use Rattle.std.proofs.lemmas.Int.{ints}
use Rattle.std.proofs.lemmas.List.Elements.{All-cons, All-nil}
use Rattle.affc_system.specs.Systems.{IsPoint, Meets}
use Rattle.affc_leaf.specs.Bounds.{IsBound, bound_at, lowered, no_bound}
use Rattle.affc_leaf.specs.Parts.{NoneIn}
use Rattle.affc_leaf.specs.Fronts.{IsPinned}
use Rattle.affc_leaf.specs.Examples.{plane, ten_by_three, from_two, at_x, LeastColumnIsAFront, LaterColumnIsNoFront, WiderPartIsNoFront, BoxIsItsOwnFront, OneValueIsLeft, FirstColumnIsPinned, TurnedRangeIsNone}
use Rattle.affc_leaf.proofs.Pinning.{pin_front, pin_pinned, front_of_itself}

no_column : (k : ℕ) → k < 0 → ⊥
no_column k h = omega (arith, h)

least : pos 0 ≤ℤ pos 2
least = omega (arith, ints)

most : pos 2 ≤ℤ pos 9
most = omega (arith, ints)

below_two : (x y : ℤ) → x ≤ℤ pos 1 → pos 0 ≤ℤ (((pos 1 *ℤ x) +ℤ ((pos 0 *ℤ y) +ℤ pos 0)) +ℤ negsuc 1) → ⊥
below_two x y h m = omega (arith, ints, h, m)

one_number : suc zero ≡ suc (suc zero) → ⊥
one_number e = omega (arith, e)

none_below : NoneIn from_two (lowered ten_by_three 0 (pos 1) 0)
none_below [] p q = absurd p
none_below (x ∷ []) p q = one_number q.width
none_below (x ∷ y ∷ ys) p q = below_two x y p.1 (q.meets 0 (plane (pos 1) (pos 0) (negsuc 1)) (omega arith))

pub least_column_is_a_front : LeastColumnIsAFront
least_column_is_a_front = pin_front from_two ten_by_three 0 (pos 2) 0 (omega arith) (λ k h. absurd (no_column k h)) least most (λ h. none_below)

at_two : pos 0 ≤ℤ (((pos 1 *ℤ pos 2) +ℤ ((pos 0 *ℤ pos 1) +ℤ pos 0)) +ℤ negsuc 1)
at_two = omega (arith, ints)

pub first_is_point : IsPoint from_two (pos 2 ∷ pos 1 ∷ [])
first_is_point = record { width = refl; meets = All-cons (Meets (pos 2 ∷ pos 1 ∷ [])) (plane (pos 1) (pos 0) (negsuc 1)) [] at_two (All-nil (Meets (pos 2 ∷ pos 1 ∷ []))) }

same : pos 1 ≤ℤ pos 1
same = omega (arith, ints)

three : pos 1 ≤ℤ pos 3
three = omega (arith, ints)

again : pos 3 ≤ℤ pos 3
again = omega (arith, ints)

not_at_most : pos 3 ≤ℤ pos 2 → ⊥
not_at_most h = omega (arith, ints, h)

not_below : pos 3 <ℤ pos 2 → ⊥
not_below h = omega (arith, ints, h)

not_the_same : pos 3 ≡ pos 2 → ⊥
not_the_same e = omega (arith, ints, e)

pub later_column_is_no_front : LaterColumnIsNoFront
later_column_is_no_front f = elim (f.first (pos 2 ∷ pos 1 ∷ []) (least, most, (same, three, tt)) first_is_point) [
  | inl p ↦ not_at_most p.0
  | inr behind ↦ elim (behind (pos 3 ∷ pos 1 ∷ []) (again, again, (same, three, tt))) [ inl h ↦ not_below h | inr h ↦ not_the_same h.0 ]
]

zero_is_least : pos 0 ≤ℤ pos 0
zero_is_least = omega (arith, ints)

zero_is_below : pos 0 ≤ℤ pos 9
zero_is_below = omega (arith, ints)

two_is_above : pos 2 ≤ℤ pos 0 → ⊥
two_is_above h = omega (arith, ints, h)

pub wider_part_is_no_front : WiderPartIsNoFront
wider_part_is_no_front f = two_is_above (f.within (pos 0 ∷ pos 1 ∷ []) (zero_is_least, zero_is_below, (same, three, tt))).0

pub box_is_its_own_front : BoxIsItsOwnFront
box_is_its_own_front = front_of_itself from_two (at_x (pos 3))

pub one_value_is_left : OneValueIsLeft
one_value_is_left = refl

x_bound : IsBound (record { low = pos 0; high = pos 9; low_row = 0; high_row = 1 })
x_bound = record { ordered = zero_is_below; low_near = omega arith; high_near = omega arith }

y_bound : IsBound (record { low = pos 1; high = pos 3; low_row = 2; high_row = 3 })
y_bound = record { ordered = three; low_near = omega arith; high_near = omega arith }

nothing_pinned : IsPinned 2 ten_by_three 0
nothing_pinned = record {
  width = refl;
  ranges = All-cons IsBound (bound_at ten_by_three 0) (bound_at ten_by_three 1 ∷ []) x_bound (All-cons IsBound (bound_at ten_by_three 1) [] y_bound (All-nil IsBound));
  single = λ k h. absurd (no_column k h);
}

one_is_three : pos 1 ≡ pos 3 → ⊥
one_is_three e = omega (arith, ints, e)

two_columns : suc (suc zero) ≡ suc (suc (suc zero)) → ⊥
two_columns e = omega (arith, e)

pub first_column_is_pinned : FirstColumnIsPinned
first_column_is_pinned = (pin_pinned 2 ten_by_three 0 (pos 2) nothing_pinned (omega arith) least most, λ p. one_is_three (p.single 1 (omega arith)), λ p. two_columns p.width)

three_is_above : pos 3 ≤ℤ pos 1 → ⊥
three_is_above h = omega (arith, ints, h)

pub turned_range_is_none : TurnedRangeIsNone
turned_range_is_none p = three_is_above (p.ranges 0 no_bound (omega arith)).ordered
