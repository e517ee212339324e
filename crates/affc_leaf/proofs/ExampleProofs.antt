-- What is seen of small boxes.
use Rattle.std.proofs.Common.{◌≡◌, ◌⊎◌, inl, inr, ℕ, zero, suc, ◌^◌, ◌<◌, ◌≤◌, List, [], ◌∷◌, ℤ, pos, negsuc, ◌+ℤ◌, ◌*ℤ◌, ◌≤ℤ◌, ◌<ℤ◌, refl, sym, ap, subst, arith, lit≤}
use Rattle.std.specs.Prelude.{Box, unsigned_abs}
use Rattle.std.specs.List.{All}
use Rattle.std.specs.declared.alloc.Global.{Global}
use Rattle.std.proofs.lemmas.Int.{ints, by_lt_z}
use Rattle.std.proofs.lemmas.List.Elements.{All-cons, All-nil, All-head}
use Rattle.affc_rows.specs.Forms.{Affine}
use Rattle.affc_system.specs.Order.{LexLe}
use Rattle.affc_system.specs.Systems.{IsPoint, IsRow, Meets}
use Rattle.affc_farkas.specs.Multiples.{AreMultipliers, row_at}
use Rattle.affc_farkas.specs.Proofs.{IsCut, IsLeaf, IsValid}
use Rattle.affc_farkas.specs.declared.proof.Proof.{Proof, Leaf, Cut'}
use Rattle.affc_leaf.specs.Bounds.{Inside}
use Rattle.affc_leaf.specs.Boxed.{SplitsAtZero}
use Rattle.affc_leaf.specs.Parts.{IsEmpty, IsLeast, Placed, NoneIn}
use Rattle.affc_leaf.specs.Examples.{plane, ten_by_three, from_two, contradiction, SumBelowZeroIsSeen, CutIsTheNextRow, SplitOfMoreIsNotSeen, BoxWithAPointIsNotEmpty, LeastPointIsSeen, NothingMayBeSeen}
use Rattle.affc_leaf.proofs.SmallFronts.{first_is_point}

-- ---- The row -1 of no columns

abbrev minus_one : Affine
minus_one = record { coefs = []; constant = negsuc 0 }

abbrev nought : Affine
nought = record { coefs = []; constant = pos 0 }

below : pos 0 ≤ℤ negsuc 0 → ⊥
below h = omega (arith, ints, h)

no_point : NoneIn contradiction []
no_point [] b p = below (All-head (Meets []) minus_one [] p.meets)
no_point (x ∷ xs) b p = absurd b

no_column : (j : ℕ) → j < 0 → ⊥
no_column j h = omega (arith, h)

below_zero : negsuc 0 <ℤ pos 0
below_zero = omega (arith, ints)

not_below : pos 0 <ℤ pos 0 → ⊥
not_below h = omega (arith, ints, h)

-- a row once
once : (i : ℕ) → AreMultipliers ((i, 1) ∷ [])
once i = record {
  few = lit≤ tt;
  positive = All-cons (λ (p : ℕ × ℕ). 1 ≤ p.1) (i, 1) [] (lit≤ tt) (All-nil (λ (p : ℕ × ℕ). 1 ≤ p.1));
  small = All-cons (λ (p : ℕ × ℕ). p.1 ≤ 2 ^ 53) (i, 1) [] (lit≤ tt) (All-nil (λ (p : ℕ × ℕ). p.1 ≤ 2 ^ 53));
  rising = (All-nil (λ (q : ℕ × ℕ). i < q.0), tt);
}

is_there : (i n : ℕ) → i < n → All (λ (p : ℕ × ℕ). p.0 < n) ((i, 1) ∷ [])
is_there i n h = All-cons (λ (p : ℕ × ℕ). p.0 < n) (i, 1) [] h (All-nil (λ (p : ℕ × ℕ). p.0 < n))

a_row : (c : ℤ) → unsigned_abs c ≤ 2 ^ 60 → IsRow 0 (record { coefs = []; constant = c })
a_row c h = record { width = refl; fits = record { coefs_fit = All-nil (λ c. unsigned_abs c ≤ 2 ^ 40); constant_fits = h } }

minus_one_fits : IsRow 0 minus_one
minus_one_fits = a_row (negsuc 0) (lit≤ tt)

row_is_leaf : IsLeaf 0 (minus_one ∷ []) ((0, 1) ∷ [])
row_is_leaf = record { multipliers = once 0; there = is_there 0 1 (lit≤ tt); cancels = λ j h. absurd (no_column j h); negative = below_zero }

added_is_leaf : IsLeaf 0 (minus_one ∷ minus_one ∷ []) ((1, 1) ∷ [])
added_is_leaf = record { multipliers = once 1; there = is_there 1 2 (lit≤ tt); cancels = λ j h. absurd (no_column j h); negative = below_zero }

one : pos 1 ≤ℤ pos 1
one = omega (arith, ints)

same : negsuc 0 ≤ℤ negsuc 0
same = omega (arith, ints)

row_is_cut : IsCut 0 (minus_one ∷ []) ((0, 1) ∷ []) (pos 1) minus_one
row_is_cut = record {
  multipliers = once 0;
  there = is_there 0 1 (lit≤ tt);
  divisor = one;
  row_fits = minus_one_fits;
  quotients = λ j h. absurd (no_column j h);
  floor_low = same;
  floor_high = below_zero;
}

-- one row in which no bounds stand is the row of the system
its_row : (rows : List Affine) → Placed contradiction rows 1 [] → rows ≡ minus_one ∷ []
its_row [] p = absurd (omega (arith, p.count))
its_row (r ∷ []) p = ap (λ q. q ∷ []) (p.own 0 (lit≤ tt))
its_row (r ∷ s ∷ rs) p = absurd (omega (arith, p.count))

itself : Placed contradiction (minus_one ∷ []) 1 []
itself = record {
  count = refl;
  fit = All-cons (IsRow 0) minus_one [] minus_one_fits (All-nil (IsRow 0));
  longer = lit≤ tt;
  own = λ i h. refl;
  bounded = λ j h. absurd (no_column j h);
}

-- the row 0 behind it
with_nought : Placed contradiction (minus_one ∷ nought ∷ []) 2 []
with_nought = record {
  count = refl;
  fit = All-cons (IsRow 0) minus_one (nought ∷ []) minus_one_fits (All-cons (IsRow 0) nought [] (a_row (pos 0) (lit≤ tt)) (All-nil (IsRow 0)));
  longer = lit≤ tt;
  own = first_alone;
  bounded = λ j h. absurd (no_column j h);
}
  where
    first_alone : (i : ℕ) → i < 1 → row_at 0 (minus_one ∷ nought ∷ []) i ≡ row_at 0 (minus_one ∷ []) i
    first_alone zero h = refl
    first_alone (suc i) h = absurd (omega (arith, h))

leaf_empties : IsEmpty contradiction [] 1 (Leaf ((0, 1) ∷ []))
leaf_empties = record { none = no_point; valid = λ rows p. subst (λ rs. IsLeaf 0 rs ((0, 1) ∷ [])) (sym (its_row rows p)) row_is_leaf; plain = tt }

no_sum_is_none : IsEmpty contradiction [] 1 (Leaf []) → ⊥
no_sum_is_none h = let l : IsLeaf 0 (minus_one ∷ []) [] = h.valid (minus_one ∷ []) itself in not_below l.negative

pub sum_below_zero_is_seen : SumBelowZeroIsSeen
sum_below_zero_is_seen leaf empty e f = (subst (λ (q : Proof). IsEmpty contradiction [] 1 q) (sym e) leaf_empties, λ h. no_sum_is_none (subst (λ (q : Proof). IsEmpty contradiction [] 1 q) f h))

module _ (p : Box (Unit {0}) Global) where
  abbrev cut : Proof
  cut = Cut' ((0, 1) ∷ []) (pos 1) minus_one p (Leaf ((1, 1) ∷ []))

  cut_empties : IsEmpty contradiction [] 1 cut
  cut_empties = record { none = no_point; valid = λ rows placed. subst (λ rs. IsValid 0 cut rs) (sym (its_row rows placed)) (row_is_cut, added_is_leaf); plain = tt }

  other_number : IsEmpty contradiction [] 2 cut → ⊥
  other_number h = let l : IsLeaf 0 (minus_one ∷ nought ∷ minus_one ∷ []) ((1, 1) ∷ []) = (h.valid (minus_one ∷ nought ∷ []) with_nought).1 in not_below l.negative

pub cut_is_the_next_row : CutIsTheNextRow
cut_is_the_next_row p b e = (subst (λ (q : Proof). IsEmpty contradiction [] 1 q) (sym e) (cut_empties p), λ h. other_number p (subst (λ (q : Proof). IsEmpty contradiction [] 2 q) e h))

one_is_zero : pos 1 ≡ pos 0 → ⊥
one_is_zero e = omega (arith, ints, e)

pub split_of_more_is_not_seen : SplitOfMoreIsNotSeen
split_of_more_is_not_seen p b e h = let plain = subst (λ (q : Proof). SplitsAtZero q) e h.plain in one_is_zero plain.0

-- ---- The points with an x of at least 2

inside : Inside ten_by_three (pos 2 ∷ pos 1 ∷ [])
inside = (omega (arith, ints), omega (arith, ints), (omega (arith, ints), omega (arith, ints), tt))

pub box_with_a_point_is_not_empty : BoxWithAPointIsNotEmpty
box_with_a_point_is_not_empty proof next h = h.none (pos 2 ∷ pos 1 ∷ []) inside first_is_point

in_order : (n x : ℤ) → n ≤ℤ x → (n <ℤ x) ⊎ (n ≡ x)
in_order n x h = by_lt_z n x (λ k. inl k) (λ k. inr (omega (arith, ints, h, k)))

at_least_two : (x y : ℤ) → pos 0 ≤ℤ (((pos 1 *ℤ x) +ℤ ((pos 0 *ℤ y) +ℤ pos 0)) +ℤ negsuc 1) → pos 2 ≤ℤ x
at_least_two x y m = omega (arith, ints, m)

comes_first : (z : List ℤ) → Inside ten_by_three z → IsPoint from_two z → LexLe (pos 2 ∷ pos 1 ∷ []) z
comes_first [] b p = absurd b
comes_first (x ∷ []) b p = absurd b.2
comes_first (x ∷ y ∷ z ∷ zs) b p = absurd b.2.2
comes_first (x ∷ y ∷ []) b p = elim (in_order (pos 2) x (at_least_two x y (All-head (Meets (x ∷ y ∷ [])) (plane (pos 1) (pos 0) (negsuc 1)) [] p.meets))) [
  | inl h ↦ inl h
  | inr e ↦ elim (in_order (pos 1) y b.2.0) [ inl h ↦ inr (e, inl h) | inr f ↦ inr (e, inr (f, tt)) ]
]

least : IsLeast from_two ten_by_three (pos 2 ∷ pos 1 ∷ [])
least = record { inside = inside; meets = first_is_point; least = comes_first }

three_is_more : pos 3 <ℤ pos 2 → ⊥
three_is_more h = omega (arith, ints, h)

three_is_other : pos 3 ≡ pos 2 → ⊥
three_is_other e = omega (arith, ints, e)

not_first : LexLe (pos 3 ∷ pos 1 ∷ []) (pos 2 ∷ pos 1 ∷ []) → ⊥
not_first (inl h) = three_is_more h
not_first (inr h) = three_is_other h.0

another : IsLeast from_two ten_by_three (pos 3 ∷ pos 1 ∷ []) → ⊥
another h = not_first (h.least (pos 2 ∷ pos 1 ∷ []) inside first_is_point)

one_is_less : pos 2 ≤ℤ pos 1 → ⊥
one_is_less h = omega (arith, ints, h)

no_point_of_it : IsLeast from_two ten_by_three (pos 1 ∷ pos 1 ∷ []) → ⊥
no_point_of_it h = one_is_less (at_least_two (pos 1) (pos 1) (All-head (Meets (pos 1 ∷ pos 1 ∷ [])) (plane (pos 1) (pos 0) (negsuc 1)) [] h.meets.meets))

below_one : pos 1 ≤ℤ pos 0 → ⊥
below_one h = omega (arith, ints, h)

outside : IsLeast from_two ten_by_three (pos 2 ∷ pos 0 ∷ []) → ⊥
outside h = below_one h.inside.2.0

pub least_point_is_seen : LeastPointIsSeen
least_point_is_seen v next = (
  λ e. subst (IsLeast from_two ten_by_three) (sym e) least,
  λ e h. another (subst (IsLeast from_two ten_by_three) e h),
  λ e h. no_point_of_it (subst (IsLeast from_two ten_by_three) e h),
  λ e h. outside (subst (IsLeast from_two ten_by_three) e h),
)

pub nothing_may_be_seen : NothingMayBeSeen
nothing_may_be_seen = (tt, tt)
