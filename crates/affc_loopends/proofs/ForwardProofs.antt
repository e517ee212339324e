-- A loop whose bound implies the range of its iterator.
use Rattle.std.proofs.Common.{◌≡◌, ℕ, zero, suc, ◌<◌, ◌≤◌, List, [], ◌∷◌, ◌++◌, length, get_or, ℤ, pos, negsuc, ◌*ℤ◌, ◌≤ℤ◌, refl, sym, subst, arith}
use Rattle.std.specs.List.{All, Contains}
use denote.Hole.Carrier.{hidden}
use Rattle.std.proofs.lemmas.Int.{ints}
use Rattle.std.proofs.lemmas.List.Elements.{All-nil, All-cons}
use Rattle.affc_rows.specs.Forms.{Affine}
use Rattle.affc_rows.proofs.IntLemmas.{one-mul}
use Rattle.affc_system.specs.Systems.{Meets}
use Rattle.affc_ast.specs.declared.tree.Ix.TheBlock.{shape-the_row-Ix-0, hidden-the_row-Ix-0}
use Rattle.affc_farkas.specs.Multiples.{entry_of}
use Rattle.affc_farkas.specs.Rational.{scaled_value}
use Rattle.affc_farkas.specs.Eliminations.{owns, coefficient, none}
use Rattle.affc_farkas.specs.declared.pair.Pair.{Pair}
use Rattle.affc_eliminate.specs.project.Projections.{ExtendsWhole}
use Rattle.affc_loopends.specs.TimeRows.{system_of}
use Rattle.affc_loopends.specs.Ends.{IsProjectedRow, BoundsBelow, BoundsAbove}
use Rattle.affc_loopends.specs.Examples.{row, forward, start, bound, greatest, at_most_four, RangeIsARow, RangeMayGo, RangeIsTooLittle, BesideTheParameter, NotByItself, BoundStays}
use Rattle.affc_loopends.proofs.ExampleProofs.{divisor_of_one, two_only, meets_row}
use Rattle.affc_loopends.proofs.Instances.{whole_value}

abbrev rows : List Affine
rows = (system_of forward).rows

abbrev at_least_one : Affine
at_least_one = row (pos 1 ∷ pos 0 ∷ []) (negsuc 0)

abbrev nothing : Affine
nothing = row (pos 0 ∷ pos 0 ∷ []) (pos 0)

pub range_is_a_row : RangeIsARow
unfolding shape-the_row-Ix-0 hidden-the_row-Ix-0 hidden
range_is_a_row = (5, omega arith, refl)

-- ---- Projected rows

start_row : IsProjectedRow (system_of forward) 2 start
unfolding shape-the_row-Ix-0 hidden-the_row-Ix-0 hidden
start_row = record {
  made = [];
  table = owns 8 8;
  is_table = none;
  later = All-nil (λ (p : Pair). 2 ≤ p.column);
  is_row = record {
    number = 2;
    there = omega arith;
    zeros = λ j ge lt. absurd (omega arith);
    terms = record {
      divisor = 1;
      positive = omega arith;
      width = refl;
      coefs = two_only (coefficient rows (owns 8 8) 2) (λ j. pos 1 *ℤ entry_of start j) refl refl;
      last = refl;
      least = λ k h. divisor_of_one k (h 1 (omega arith));
    };
  };
}

bound_row : IsProjectedRow (system_of forward) 2 bound
unfolding shape-the_row-Ix-0 hidden-the_row-Ix-0 hidden
bound_row = record {
  made = [];
  table = owns 8 8;
  is_table = none;
  later = All-nil (λ (p : Pair). 2 ≤ p.column);
  is_row = record {
    number = 3;
    there = omega arith;
    zeros = λ j ge lt. absurd (omega arith);
    terms = record {
      divisor = 1;
      positive = omega arith;
      width = refl;
      coefs = two_only (coefficient rows (owns 8 8) 3) (λ j. pos 1 *ℤ entry_of bound j) refl refl;
      last = refl;
      least = λ k h. divisor_of_one k (h 1 (omega arith));
    };
  };
}

-- ---- Points

implied : (n t : ℤ) → Meets (n ∷ t ∷ []) at_most_four → Meets (n ∷ t ∷ []) bound → Meets (n ∷ t ∷ []) greatest
implied n t h b = omega (arith, ints)

one_met : (n t : ℤ) (r : Affine) → Meets (n ∷ t ∷ []) r → All (Meets (n ∷ t ∷ [])) (r ∷ [])
one_met n t r m = All-cons (Meets (n ∷ t ∷ [])) r [] m (All-nil (Meets (n ∷ t ∷ [])))

-- the rows of the system at (n, t)
all_met : (n t : ℤ) → Meets (n ∷ t ∷ []) at_least_one → Meets (n ∷ t ∷ []) at_most_four → Meets (n ∷ t ∷ []) start → Meets (n ∷ t ∷ []) bound → All (λ r. pos 0 ≤ℤ scaled_value r (n ∷ t ∷ []) (pos 1)) rows
unfolding shape-the_row-Ix-0 hidden-the_row-Ix-0 hidden
all_met n t one four a b =
    let P : Affine → Type 0 = λ r. pos 0 ≤ℤ scaled_value r (n ∷ t ∷ []) (pos 1) in
    let at : (r : Affine) → Meets (n ∷ t ∷ []) r → P r = λ r m. subst (λ z. pos 0 ≤ℤ z) (sym (whole_value r (n ∷ t ∷ []))) m in
    All-cons P at_least_one (at_most_four ∷ start ∷ bound ∷ start ∷ greatest ∷ nothing ∷ nothing ∷ []) (at at_least_one one)
    (All-cons P at_most_four (start ∷ bound ∷ start ∷ greatest ∷ nothing ∷ nothing ∷ []) (at at_most_four four)
    (All-cons P start (bound ∷ start ∷ greatest ∷ nothing ∷ nothing ∷ []) (at start a)
    (All-cons P bound (start ∷ greatest ∷ nothing ∷ nothing ∷ []) (at bound b)
    (All-cons P start (greatest ∷ nothing ∷ nothing ∷ []) (at start a)
    (All-cons P greatest (nothing ∷ nothing ∷ []) (at greatest (implied n t four b))
    (All-cons P nothing (nothing ∷ []) (at nothing (any n t)) (All-cons P nothing [] (at nothing (any n t)) (All-nil P))))))))
  where
    any : (n t : ℤ) → Meets (n ∷ t ∷ []) nothing
    any n t = omega (arith, ints)

-- ---- The ends

extended : (before : List ℤ) (t : ℤ) → length before ≡ 1 → ExtendsWhole 2 rows before → All (Meets (before ++ t ∷ [])) (start ∷ []) → All (Meets (before ++ t ∷ [])) (bound ∷ []) → ExtendsWhole 2 rows (before ++ t ∷ [])
unfolding shape-the_row-Ix-0 hidden-the_row-Ix-0 hidden
extended [] t l e a b = absurd (omega arith)
extended (n ∷ m ∷ before) t l e a b = absurd (omega arith)
extended (n ∷ []) t l e a b =
    let p = e.point in
    let one = meets_row n t p.x p.d at_least_one refl refl p.width p.divisor e.begins (p.meets 0 at_least_one (omega arith)) in
    let four = meets_row n t p.x p.d at_most_four refl refl p.width p.divisor e.begins (p.meets 1 at_most_four (omega arith)) in
    record {
      point = record { x = n ∷ t ∷ []; d = pos 1; width = refl; divisor = omega (arith, ints); meets = all_met n t one four (a 0 start (omega arith)) (b 0 bound (omega arith)) };
      begins = two_only (λ j. get_or (n ∷ t ∷ []) j (pos 0)) (λ j. pos 1 *ℤ get_or (n ∷ t ∷ []) j (pos 0)) (sym (one-mul n)) (sym (one-mul t));
    }

pub range_may_go : RangeMayGo
unfolding shape-the_row-Ix-0 hidden-the_row-Ix-0 hidden
range_may_go = record {
  inside = omega arith;
  projected_lower = All-cons (IsProjectedRow (system_of forward) 2) start [] start_row (All-nil (IsProjectedRow (system_of forward) 2));
  projected_upper = All-cons (IsProjectedRow (system_of forward) 2) bound [] bound_row (All-nil (IsProjectedRow (system_of forward) 2));
  below = All-cons (BoundsBelow 1) start [] (omega (arith, ints)) (All-nil (BoundsBelow 1));
  above = All-cons (BoundsAbove 1) bound [] (omega (arith, ints)) (All-nil (BoundsAbove 1));
  few_lower = omega arith;
  few_upper = omega arith;
  extend = extended;
}

-- at N = 1 and t = 3 the bound doesn't hold
beyond : (x : List ℤ) (d : ℤ) → length x ≡ 2 → pos 1 ≤ℤ d → get_or x 0 (pos 0) ≡ d *ℤ pos 1 → get_or x 1 (pos 0) ≡ d *ℤ pos 3 → pos 0 ≤ℤ scaled_value bound x d → ⊥
beyond [] d l one e f h = absurd (omega arith)
beyond (a ∷ []) d l one e f h = absurd (omega arith)
beyond (a ∷ b ∷ c ∷ x) d l one e f h = absurd (omega arith)
beyond (a ∷ b ∷ []) d l one e f h = absurd (omega (arith, ints))

pub range_is_too_little : RangeIsTooLittle
unfolding shape-the_row-Ix-0 hidden-the_row-Ix-0 hidden
range_is_too_little h =
    let begin : ExtendsWhole 2 rows (pos 1 ∷ []) = record {
      point = record { x = pos 1 ∷ pos 0 ∷ []; d = pos 1; width = refl; divisor = omega (arith, ints); meets = all_met (pos 1) (pos 0) (omega (arith, ints)) (omega (arith, ints)) (omega (arith, ints)) (omega (arith, ints)) };
      begins = λ j lt. first j lt;
    } in
    let e = h.extend (pos 1 ∷ []) (pos 3) refl begin (one_met (pos 1) (pos 3) start (omega (arith, ints))) (one_met (pos 1) (pos 3) greatest (omega (arith, ints))) in
    beyond e.point.x e.point.d e.point.width e.point.divisor (e.begins 0 (omega arith)) (e.begins 1 (omega arith)) (e.point.meets 3 bound (omega arith))
  where
    first : (j : ℕ) → j < 1 → get_or (pos 1 ∷ pos 0 ∷ []) j (pos 0) ≡ pos 1 *ℤ get_or (pos 1 ∷ []) j (pos 0)
    first zero lt = refl
    first (suc j) lt = absurd (omega arith)

-- ---- What is left

pub beside_the_parameter : BesideTheParameter
beside_the_parameter = record {
  few = omega arith;
  among = All-cons (Contains (bound ∷ greatest ∷ [])) bound [] (0, omega arith, refl) (All-nil (Contains (bound ∷ greatest ∷ [])));
  imply = λ whole l b m. met whole l (b 0 at_most_four (omega arith)) (m 0 bound (omega arith));
}
  where
    met : (whole : List ℤ) → length whole ≡ 2 → Meets whole at_most_four → Meets whole bound → All (Meets whole) (bound ∷ greatest ∷ [])
    met [] l h b = absurd (omega arith)
    met (n ∷ []) l h b = absurd (omega arith)
    met (n ∷ t ∷ u ∷ whole) l h b = absurd (omega arith)
    met (n ∷ t ∷ []) l h b = All-cons (Meets (n ∷ t ∷ [])) bound (greatest ∷ []) b (All-cons (Meets (n ∷ t ∷ [])) greatest [] (implied n t h b) (All-nil (Meets (n ∷ t ∷ []))))

pub not_by_itself : NotByItself
not_by_itself h = past (h.imply (pos 9 ∷ pos 5 ∷ []) refl (All-nil (Meets (pos 9 ∷ pos 5 ∷ []))) (one_met (pos 9) (pos 5) bound (omega (arith, ints))) 1 greatest (omega arith))
  where
    past : Meets (pos 9 ∷ pos 5 ∷ []) greatest → ⊥
    past h = absurd (omega (arith, ints))

pub bound_stays : BoundStays
bound_stays h =
    past (h.imply (pos 1 ∷ pos 3 ∷ []) refl (one_met (pos 1) (pos 3) at_most_four (omega (arith, ints))) (one_met (pos 1) (pos 3) greatest (omega (arith, ints))) 0 bound (omega arith))
  where
    past : Meets (pos 1 ∷ pos 3 ∷ []) bound → ⊥
    past h = absurd (omega (arith, ints))
