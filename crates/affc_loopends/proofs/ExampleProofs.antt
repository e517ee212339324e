-- The examples.
use Rattle.std.proofs.Common.{◌≡◌, ℕ, zero, suc, ◌<◌, ◌≤◌, List, [], ◌∷◌, ◌++◌, length, get_or, ℤ, pos, negsuc, ◌+ℤ◌, ◌*ℤ◌, ◌≤ℤ◌, refl, sym, subst, ◌∙◌, arith}
use Rattle.std.specs.List.{All}
use Prim.Native.Nat.{◌∣◌}
use denote.Hole.Carrier.{hidden}
use Rattle.std.proofs.lemmas.Int.{ints}
use Rattle.std.proofs.lemmas.List.Elements.{All-nil, All-cons}
use Rattle.std.proofs.lemmas.Nat.Gcd.{dvd_antisymm}
use Rattle.std.proofs.Math.Nat.{one-dvd}
use Rattle.affc_rows.specs.Forms.{Affine}
use Rattle.affc_rows.proofs.IntLemmas.{one-mul}
use Rattle.affc_system.specs.Systems.{Meets}
use Rattle.affc_ast.specs.declared.tree.Ix.TheBlock.{shape-the_row-Ix-0, hidden-the_row-Ix-0}
use Rattle.affc_farkas.specs.Multiples.{entry_of}
use Rattle.affc_farkas.specs.Rational.{scaled_value}
use Rattle.affc_farkas.specs.Eliminations.{owns, coefficient, none}
use Rattle.affc_farkas.specs.declared.pair.Pair.{Pair}
use Rattle.affc_eliminate.specs.project.Projections.{ExtendsWhole}
use Rattle.affc_loopends.specs.TimeSets.{IsShaped, IsTimePoint}
use Rattle.affc_loopends.specs.TimeRows.{system_of}
use Rattle.affc_loopends.specs.Ends.{IsProjectedRow, BoundsBelow, BoundsAbove}
use Rattle.affc_loopends.specs.Examples.{row, from, up_to, reversed, TriangleRows, OneOneHasATime, HalvesAreTimePoints, TheDivisorCounts, NotAboveTheDiagonal, BelowIsOneLess, ReversedEnds, OneEndIsTooFew, EachAtItsEnd, NoOtherRow, OneAndAHalfIsATimePoint, NoneIsWhole}
use Rattle.affc_loopends.proofs.Bounded.{flat_meets}
use Rattle.affc_loopends.proofs.Extended.{ends_hold}
use Rattle.affc_loopends.proofs.Instances.{whole_value}

-- ---- The triangle

pub triangle_rows : TriangleRows
unfolding shape-the_row-Ix-0 hidden-the_row-Ix-0 hidden
triangle_rows = refl

pub one_one : OneOneHasATime
unfolding shape-the_row-Ix-0 hidden-the_row-Ix-0 hidden
one_one = record {
  width = refl;
  divisor = omega (arith, ints);
  parameters = (omega (arith, ints), omega (arith, ints), tt);
  context = tt;
  turn = (omega (arith, ints), omega (arith, ints), (omega (arith, ints), omega (arith, ints), tt));
  within = (omega (arith, ints), omega (arith, ints), (omega (arith, ints), omega (arith, ints), tt));
  times = refl;
}

pub halves : HalvesAreTimePoints
unfolding shape-the_row-Ix-0 hidden-the_row-Ix-0 hidden
halves = record {
  width = refl;
  divisor = omega (arith, ints);
  parameters = (omega (arith, ints), omega (arith, ints), tt);
  context = tt;
  turn = (omega (arith, ints), omega (arith, ints), (omega (arith, ints), omega (arith, ints), tt));
  within = (omega (arith, ints), omega (arith, ints), (omega (arith, ints), omega (arith, ints), tt));
  times = refl;
}

pub the_divisor : TheDivisorCounts
the_divisor = ((λ h. absurd (past h.parameters.0)), (λ h. absurd (none_at_all h.divisor)))
  where
    past : (pos 4 ≤ℤ pos 3) → ⊥
    past h = absurd (omega (arith, ints))

    none_at_all : (pos 1 ≤ℤ pos 0) → ⊥
    none_at_all h = absurd (omega (arith, ints))

pub not_above : NotAboveTheDiagonal
unfolding shape-the_row-Ix-0 hidden-the_row-Ix-0 hidden
not_above h = past h.turn.2.1
  where
    past : (pos 2 ≤ℤ pos 1) → ⊥
    past h = absurd (omega (arith, ints))

pub below : BelowIsOneLess
unfolding shape-the_row-Ix-0 hidden-the_row-Ix-0 hidden
below h = past h.turn.1
  where
    past : (pos 7 ≤ℤ pos 6) → ⊥
    past h = absurd (omega (arith, ints))

-- ---- The half

pub one_and_a_half : OneAndAHalfIsATimePoint
unfolding shape-the_row-Ix-0 hidden-the_row-Ix-0 hidden
one_and_a_half = record {
  width = refl;
  divisor = omega (arith, ints);
  parameters = (omega (arith, ints), omega (arith, ints), tt);
  context = tt;
  turn = (omega (arith, ints), omega (arith, ints), ((refl, tt), tt));
  within = (omega (arith, ints), omega (arith, ints), tt);
  times = refl;
}

pub none_is_whole : NoneIsWhole
unfolding shape-the_row-Ix-0 hidden-the_row-Ix-0 hidden
none_is_whole t h = odd (pos 1 *ℤ t) h.turn.2.0.0
  where
    odd : (u : ℤ) → (pos 0 +ℤ ((pos 2 *ℤ ((pos 0 +ℤ (u +ℤ pos 0)) +ℤ pos 0)) +ℤ pos 0)) +ℤ pos 0 ≡ (pos 3 +ℤ ((pos 0 *ℤ ((pos 0 +ℤ (u +ℤ pos 0)) +ℤ pos 0)) +ℤ pos 0)) +ℤ pos 0 → ⊥
    odd u e = absurd (omega (arith, ints))

-- ---- The reversed loop

pub divisor_of_one : (k : ℕ) → k ∣ 1 → k ≡ 1
divisor_of_one k h = dvd_antisymm {m = k} {n = 1} h (one-dvd k)

pub two_only : (f g : ℕ → ℤ) → f 0 ≡ g 0 → f 1 ≡ g 1 → (j : ℕ) → j < 2 → f j ≡ g j
two_only f g a b zero h = a
two_only f g a b (suc zero) h = b
two_only f g a b (suc (suc j)) h = absurd (omega arith)

abbrev rows : List Affine
rows = (system_of reversed).rows

from_row : IsProjectedRow (system_of reversed) 2 from
unfolding shape-the_row-Ix-0 hidden-the_row-Ix-0 hidden
from_row = record {
  made = [];
  table = owns 8 8;
  is_table = none;
  later = All-nil (λ (p : Pair). 2 ≤ p.column);
  is_row = record {
    number = 3;
    there = omega arith;
    zeros = λ j ge lt. absurd (omega arith);
    terms = record {
      divisor = 1;
      positive = omega arith;
      width = refl;
      coefs = two_only (coefficient rows (owns 8 8) 3) (λ j. pos 1 *ℤ entry_of from j) refl refl;
      last = refl;
      least = λ k h. divisor_of_one k (h 1 (omega arith));
    };
  };
}

up_to_row : IsProjectedRow (system_of reversed) 2 up_to
unfolding shape-the_row-Ix-0 hidden-the_row-Ix-0 hidden
up_to_row = record {
  made = [];
  table = owns 8 8;
  is_table = none;
  later = All-nil (λ (p : Pair). 2 ≤ p.column);
  is_row = record {
    number = 2;
    there = omega arith;
    zeros = λ j ge lt. absurd (omega arith);
    terms = record {
      divisor = 1;
      positive = omega arith;
      width = refl;
      coefs = two_only (coefficient rows (owns 8 8) 2) (λ j. pos 1 *ℤ entry_of up_to j) refl refl;
      last = refl;
      least = λ k h. divisor_of_one k (h 1 (omega arith));
    };
  };
}

pub meets_row : (n t : ℤ) (x : List ℤ) (d : ℤ) (r : Affine) → length r.coefs ≡ 2 → entry_of r 1 ≡ pos 0 → length x ≡ 2 → pos 1 ≤ℤ d → ((j : ℕ) → j < 1 → get_or x j (pos 0) ≡ d *ℤ get_or (n ∷ []) j (pos 0)) → pos 0 ≤ℤ scaled_value r x d
    → Meets (n ∷ t ∷ []) r
meets_row n t x d r w z l one b h = flat_meets r x d t (n ∷ []) one w (l ∙ sym w) z b h

-- the rows of the system at (n, t)
all_met : (n t : ℤ) → Meets (n ∷ t ∷ []) (row (pos 1 ∷ pos 0 ∷ []) (negsuc 0)) → Meets (n ∷ t ∷ []) (row (negsuc 0 ∷ pos 0 ∷ []) (pos 9)) → Meets (n ∷ t ∷ []) from → Meets (n ∷ t ∷ []) up_to
    → All (λ r. pos 0 ≤ℤ scaled_value r (n ∷ t ∷ []) (pos 1)) rows
unfolding shape-the_row-Ix-0 hidden-the_row-Ix-0 hidden
all_met n t one nine a b =
    let P : Affine → Type 0 = λ r. pos 0 ≤ℤ scaled_value r (n ∷ t ∷ []) (pos 1) in
    let r0 = row (pos 1 ∷ pos 0 ∷ []) (negsuc 0) in
    let r1 = row (negsuc 0 ∷ pos 0 ∷ []) (pos 9) in
    let r5 = row (pos 0 ∷ pos 1 ∷ []) (pos 8) in
    let r6 = row (pos 0 ∷ pos 0 ∷ []) (pos 0) in
    let at : (r : Affine) → Meets (n ∷ t ∷ []) r → P r = λ r m. subst (λ z. pos 0 ≤ℤ z) (sym (whole_value r (n ∷ t ∷ []))) m in
    All-cons P r0 (r1 ∷ up_to ∷ from ∷ up_to ∷ r5 ∷ r6 ∷ r6 ∷ []) (at r0 one)
    (All-cons P r1 (up_to ∷ from ∷ up_to ∷ r5 ∷ r6 ∷ r6 ∷ []) (at r1 nine)
    (All-cons P up_to (from ∷ up_to ∷ r5 ∷ r6 ∷ r6 ∷ []) (at up_to b)
    (All-cons P from (up_to ∷ r5 ∷ r6 ∷ r6 ∷ []) (at from a)
    (All-cons P up_to (r5 ∷ r6 ∷ r6 ∷ []) (at up_to b)
    (All-cons P r5 (r6 ∷ r6 ∷ []) (at r5 (eight n t nine a))
    (All-cons P r6 (r6 ∷ []) (at r6 (nothing n t)) (All-cons P r6 [] (at r6 (nothing n t)) (All-nil P))))))))
  where
    eight : (n t : ℤ) → Meets (n ∷ t ∷ []) (row (negsuc 0 ∷ pos 0 ∷ []) (pos 9)) → Meets (n ∷ t ∷ []) from → Meets (n ∷ t ∷ []) (row (pos 0 ∷ pos 1 ∷ []) (pos 8))
    eight n t h a = omega (arith, ints)

    nothing : (n t : ℤ) → Meets (n ∷ t ∷ []) (row (pos 0 ∷ pos 0 ∷ []) (pos 0))
    nothing n t = omega (arith, ints)

extended : (before : List ℤ) (t : ℤ) → length before ≡ 1 → ExtendsWhole 2 rows before → All (Meets (before ++ t ∷ [])) (from ∷ []) → All (Meets (before ++ t ∷ [])) (up_to ∷ []) → ExtendsWhole 2 rows (before ++ t ∷ [])
unfolding shape-the_row-Ix-0 hidden-the_row-Ix-0 hidden
extended [] t l e a b = absurd (omega arith)
extended (n ∷ m ∷ before) t l e a b = absurd (omega arith)
extended (n ∷ []) t l e a b =
    let p = e.point in
    let r0 = row (pos 1 ∷ pos 0 ∷ []) (negsuc 0) in
    let r1 = row (negsuc 0 ∷ pos 0 ∷ []) (pos 9) in
    let one = meets_row n t p.x p.d r0 refl refl p.width p.divisor e.begins (p.meets 0 r0 (omega arith)) in
    let nine = meets_row n t p.x p.d r1 refl refl p.width p.divisor e.begins (p.meets 1 r1 (omega arith)) in
    record {
      point = record { x = n ∷ t ∷ []; d = pos 1; width = refl; divisor = omega (arith, ints); meets = all_met n t one nine (a 0 from (omega arith)) (b 0 up_to (omega arith)) };
      begins = two_only (λ j. get_or (n ∷ t ∷ []) j (pos 0)) (λ j. pos 1 *ℤ get_or (n ∷ t ∷ []) j (pos 0)) (sym (one-mul n)) (sym (one-mul t));
    }

pub reversed_ends : ReversedEnds
unfolding shape-the_row-Ix-0 hidden-the_row-Ix-0 hidden
reversed_ends = record {
  inside = omega arith;
  projected_lower = All-cons (IsProjectedRow (system_of reversed) 2) from [] from_row (All-nil (IsProjectedRow (system_of reversed) 2));
  projected_upper = All-cons (IsProjectedRow (system_of reversed) 2) up_to [] up_to_row (All-nil (IsProjectedRow (system_of reversed) 2));
  below = All-cons (BoundsBelow 1) from [] (omega (arith, ints)) (All-nil (BoundsBelow 1));
  above = All-cons (BoundsAbove 1) up_to [] (omega (arith, ints)) (All-nil (BoundsAbove 1));
  few_lower = omega arith;
  few_upper = omega arith;
  extend = extended;
}

-- at N = 3 and t = -5 the row of the lower end doesn't hold
beyond : (x : List ℤ) (d : ℤ) → length x ≡ 2 → pos 1 ≤ℤ d → get_or x 0 (pos 0) ≡ d *ℤ pos 3 → get_or x 1 (pos 0) ≡ d *ℤ negsuc 4 → pos 0 ≤ℤ scaled_value from x d → ⊥
beyond [] d l one e f h = absurd (omega arith)
beyond (a ∷ []) d l one e f h = absurd (omega arith)
beyond (a ∷ b ∷ c ∷ x) d l one e f h = absurd (omega arith)
beyond (a ∷ b ∷ []) d l one e f h = absurd (omega (arith, ints))

pub too_few : OneEndIsTooFew
unfolding shape-the_row-Ix-0 hidden-the_row-Ix-0 hidden
too_few h =
    let start : ExtendsWhole 2 rows (pos 3 ∷ []) = record {
      point = record { x = pos 3 ∷ pos 0 ∷ []; d = pos 1; width = refl; divisor = omega (arith, ints); meets = all_met (pos 3) (pos 0) (omega (arith, ints)) (omega (arith, ints)) (omega (arith, ints)) (omega (arith, ints)) };
      begins = λ j lt. first j lt;
    } in
    let e = h.extend (pos 3 ∷ []) (negsuc 4) refl start (All-nil (Meets (pos 3 ∷ negsuc 4 ∷ []))) (All-cons (Meets (pos 3 ∷ negsuc 4 ∷ [])) up_to [] (omega (arith, ints)) (All-nil (Meets (pos 3 ∷ negsuc 4 ∷ [])))) in
    beyond e.point.x e.point.d e.point.width e.point.divisor (e.begins 0 (omega arith)) (e.begins 1 (omega arith)) (e.point.meets 3 from (omega arith))
  where
    first : (j : ℕ) → j < 1 → get_or (pos 3 ∷ pos 0 ∷ []) j (pos 0) ≡ pos 1 *ℤ get_or (pos 3 ∷ []) j (pos 0)
    first zero lt = refl
    first (suc j) lt = absurd (omega arith)

pub each_at_its_end : EachAtItsEnd
each_at_its_end h = past (h.above 0 from (omega arith))
  where
    past : BoundsAbove 1 from → ⊥
    past h = absurd (omega (arith, ints))

shaped : IsShaped reversed
shaped = record {
  ranges = refl;
  iterators = refl;
  times = All-cons (λ (g : Affine). length g.coefs ≡ 2) (row (pos 0 ∷ negsuc 0 ∷ []) (pos 0)) [] refl (All-nil (λ (g : Affine). length g.coefs ≡ 2));
  inverse = All-cons (λ (g : Affine). length g.coefs ≡ 2) (row (pos 0 ∷ negsuc 0 ∷ []) (pos 0)) [] refl (All-nil (λ (g : Affine). length g.coefs ≡ 2));
}

last_turn : IsTimePoint reversed (pos 3 ∷ negsuc 1 ∷ []) (pos 1)
unfolding shape-the_row-Ix-0 hidden-the_row-Ix-0 hidden
last_turn = record {
  width = refl;
  divisor = omega (arith, ints);
  parameters = (omega (arith, ints), omega (arith, ints), tt);
  context = tt;
  turn = (omega (arith, ints), omega (arith, ints), tt);
  within = (omega (arith, ints), omega (arith, ints), tt);
  times = refl;
}

pub no_other_row : NoOtherRow
no_other_row h = past ((ends_hold reversed 1 (row (pos 1 ∷ pos 1 ∷ []) (negsuc 1) ∷ []) (up_to ∷ []) (pos 3 ∷ negsuc 1 ∷ []) (pos 1) shaped h last_turn).0 0 from (omega arith))
  where
    past : pos 0 ≤ℤ scaled_value (row (pos 1 ∷ pos 1 ∷ []) (negsuc 1)) (pos 3 ∷ negsuc 1 ∷ []) (pos 1) → ⊥
    past h = absurd (omega (arith, ints))
