-- The examples.
use Rattle.std.proofs.Common.{◌≡◌, ◌≢◌, ℕ, zero, suc, ◌*◌, ◌%◌, ◌<◌, ◌≤◌, List, [], ◌∷◌, ◌++◌, length, map, get_or, ℤ, pos, negsuc, neg_ℤ, ◌+ℤ◌, ◌*ℤ◌, ◌≤ℤ◌, refl, sym, ap, subst, ◌∙◌, arith}
use Rattle.std.specs.Prelude.{unsigned_abs, ◌↔◌}
use Rattle.std.specs.List.{All}
use Prim.Native.Nat.{◌∣◌}
use Rattle.std.proofs.lemmas.Int.{ints}
use Rattle.std.proofs.lemmas.List.Elements.{All-nil, All-cons, All-head, All-tail}
use Rattle.std.proofs.lemmas.Nat.Gcd.{dvd_refl, dvd-zero, dvd_antisymm, dvd_of_mod-eq-zero}
use Rattle.std.proofs.Math.Nat.{one-dvd}
use Rattle.affc_rows.specs.Forms.{Affine}
use Rattle.affc_system.specs.Systems.{Meets}
use Rattle.affc_rows.proofs.IntLemmas.{one-mul, mul-add}
use Rattle.affc_farkas.specs.Multiples.{entry_of}
use Rattle.affc_farkas.proofs.Between.{cancel}
use Rattle.affc_eliminate.proofs.Rooms.{mul-neg}
use Rattle.affc_farkas.specs.Rational.{scaled_value}
use Rattle.affc_farkas.specs.Eliminations.{owns, coefficient, AreFactors, AreDivided, IsNext, IsTable, none, more}
use Rattle.affc_farkas.specs.Examples.{pair, line, apart}
use Rattle.affc_farkas.specs.declared.pair.Pair.{Pair}
use Rattle.affc_eliminate.specs.Examples.{plane}
use Rattle.affc_eliminate.specs.project.Projections.{ExtendsWhole, IsRowOfTable}
use Rattle.affc_eliminate.specs.project.Examples.{triangle, TriangleOverX, OneRowIsTooFew, TwiceIsNotLeast, OnlyLaterColumns, NoPointLeavesMinusOne, NoPointLeavesSomeRow, PointLeavesNoRow, AllColumnsAreKept}

-- ---- Divisors

one_divides : (n : ℕ) → n % 1 ≡ 0 → 1 ∣ n
one_divides n e = dvd_of_mod-eq-zero 1 e

divisor_of_one : (k : ℕ) → k ∣ 1 → k ≡ 1
divisor_of_one k h = dvd_antisymm {m = k} {n = 1} h (one-dvd k)

whole_weights : (weights : List ℕ) (i : ℕ) → i < length weights → get_or weights i 0 ≡ 1 → map (λ w. 1 * w) weights ≡ weights → AreDivided weights weights
whole_weights weights i lt e q = record {
  divisor = 1;
  positive = omega arith;
  greatest = λ k h. subst (λ w. k ∣ w) e (h i 0 lt);
  quotients = q;
}

-- ---- The triangle

abbrev made : List Pair
made = pair 0 1 1 ∷ []

abbrev table : List (List ℕ)
table = owns 3 3 ++ (2 ∷ 1 ∷ 0 ∷ []) ∷ []

two_one : AreFactors 1 2 2 1
two_one = record { divisor = 1; greatest = (dvd_refl 1, one_divides 2 refl, λ d h k. h); first = refl; second = refl }

first_next : IsNext 2 triangle [] (owns 3 3) (pair 0 1 1)
first_next = record {
  first_there = omega arith;
  second_there = omega arith;
  column_there = omega arith;
  positive = omega (arith, ints);
  negative = omega (arith, ints);
  cancelled = All-nil (λ q. q.column ≢ 1 → (coefficient triangle (owns 3 3) 0 q.column ≡ pos 0) × (coefficient triangle (owns 3 3) 1 q.column ≡ pos 0));
  other = All-nil (λ q. q ≢ pair 0 1 1);
}

is_table : IsTable 2 triangle made table
is_table = more [] (owns 3 3) (pair 0 1 1) (2 ∷ 1 ∷ 0 ∷ []) none first_next (record { s = 2; t = 1; factors = two_one; divided = whole_weights (2 ∷ 1 ∷ 0 ∷ []) 1 (omega arith) refl refl })

no_later : (j : ℕ) → 1 ≤ j → j < 2 → (number : ℕ) → coefficient triangle table number 1 ≡ pos 0 → coefficient triangle table number j ≡ pos 0
no_later zero h k number e = absurd (omega arith)
no_later (suc zero) h k number e = e
no_later (suc (suc j)) h k number e = absurd (omega arith)

first_only : (f g : ℕ → ℤ) → f 0 ≡ g 0 → (j : ℕ) → j < 1 → f j ≡ g j
first_only f g e zero h = e
first_only f g e (suc j) h = absurd (omega arith)

-- a x + b, where a is 1 or -1, is in least terms
least_line : (a b : ℤ) → unsigned_abs a ≡ 1 → (k : ℕ) → ((j : ℕ) → j ≤ 1 → k ∣ unsigned_abs (entry_of (line a b) j)) → k ≡ 1
least_line a b e k h = divisor_of_one k (subst (λ n. k ∣ n) e (h 0 (omega arith)))

upper : IsRowOfTable 1 2 triangle table (line (negsuc 0) (pos 3))
upper = record {
  number = 2;
  there = omega arith;
  zeros = λ j h k. no_later j h k 2 refl;
  terms = record {
    divisor = 1;
    positive = omega arith;
    width = refl;
    coefs = first_only (coefficient triangle table 2) (λ j. pos 1 *ℤ entry_of (line (negsuc 0) (pos 3)) j) refl;
    last = refl;
    least = least_line (negsuc 0) (pos 3) refl;
  };
}

lower : IsRowOfTable 1 2 triangle table (line (pos 1) (pos 0))
lower = record {
  number = 3;
  there = omega arith;
  zeros = λ j h k. no_later j h k 3 refl;
  terms = record {
    divisor = 2;
    positive = omega arith;
    width = refl;
    coefs = first_only (coefficient triangle table 3) (λ j. pos 2 *ℤ entry_of (line (pos 1) (pos 0)) j) refl;
    last = refl;
    least = least_line (pos 1) (pos 0) refl;
  };
}

two_lines : (P : Affine → Type 0) (f g : Affine) → P f → P g → All P (f ∷ g ∷ [])
two_lines P f g a b = All-cons P f (g ∷ []) a (All-cons P g [] b (All-nil P))

three_planes : (P : Affine → Type 0) (f g h : Affine) → P f → P g → P h → All P (f ∷ g ∷ h ∷ [])
three_planes P f g h a b c = All-cons P f (g ∷ h ∷ []) a (two_lines P g h b c)

abbrev Holds : List ℤ → ℤ → Affine → Type 0
Holds x d row = pos 0 ≤ℤ scaled_value row x d

-- ... at the point (a, 0) over the divisor 1
base_point : (a : ℤ) → Meets (a ∷ []) (line (negsuc 0) (pos 3)) → Meets (a ∷ []) (line (pos 1) (pos 0)) → All (Holds (a ∷ pos 0 ∷ []) (pos 1)) triangle
base_point a h k = three_planes (Holds (a ∷ pos 0 ∷ []) (pos 1)) (plane (pos 0) (pos 1) (pos 0)) (plane (pos 2) (negsuc 1) (pos 0)) (plane (negsuc 0) (pos 0) (pos 3))
    (omega (arith, ints)) (omega (arith, ints)) (omega (arith, ints))

first_plane : 0 < 3
first_plane = omega arith

second_plane : 1 < 3
second_plane = omega arith

third_plane : 2 < 3
third_plane = omega arith

lower_sum : (p q d t : ℤ) → p ≡ t → pos 0 ≤ℤ (((pos 0 *ℤ p) +ℤ ((pos 1 *ℤ q) +ℤ pos 0)) +ℤ (d *ℤ pos 0)) → pos 0 ≤ℤ (((pos 2 *ℤ p) +ℤ ((negsuc 1 *ℤ q) +ℤ pos 0)) +ℤ (d *ℤ pos 0)) → pos 0 ≤ℤ t
lower_sum p q d t e h k = omega (arith, ints)

upper_sum : (p q d t : ℤ) → p ≡ t → pos 0 ≤ℤ (((negsuc 0 *ℤ p) +ℤ ((pos 0 *ℤ q) +ℤ pos 0)) +ℤ (d *ℤ pos 3)) → pos 0 ≤ℤ (neg_ℤ t +ℤ (d *ℤ pos 3))
upper_sum p q d t e h = omega (arith, ints)

-- what the rows say at a point that begins with a
lower_bound : (x : List ℤ) (d a : ℤ) → length x ≡ 2 → get_or x 0 (pos 0) ≡ d *ℤ a → All (Holds x d) triangle → pos 0 ≤ℤ (d *ℤ a)
lower_bound [] d a l e h = absurd (omega arith)
lower_bound (p ∷ []) d a l e h = absurd (omega arith)
lower_bound (p ∷ q ∷ []) d a l e h = lower_sum p q d (d *ℤ a) e (h 0 (plane (pos 0) (pos 1) (pos 0)) first_plane) (h 1 (plane (pos 0) (pos 1) (pos 0)) second_plane)
lower_bound (p ∷ q ∷ r ∷ x) d a l e h = absurd (omega arith)

upper_bound : (x : List ℤ) (d a : ℤ) → length x ≡ 2 → get_or x 0 (pos 0) ≡ d *ℤ a → All (Holds x d) triangle → pos 0 ≤ℤ (neg_ℤ (d *ℤ a) +ℤ (d *ℤ pos 3))
upper_bound [] d a l e h = absurd (omega arith)
upper_bound (p ∷ []) d a l e h = absurd (omega arith)
upper_bound (p ∷ q ∷ []) d a l e h = upper_sum p q d (d *ℤ a) e (h 2 (plane (pos 0) (pos 1) (pos 0)) third_plane)
upper_bound (p ∷ q ∷ r ∷ x) d a l e h = absurd (omega arith)

as_is : (a : ℤ) → pos 0 ≤ℤ a → Meets (a ∷ []) (line (pos 1) (pos 0))
as_is a h = omega (arith, ints)

from_three : (a : ℤ) → pos 0 ≤ℤ (neg_ℤ a +ℤ pos 3) → Meets (a ∷ []) (line (negsuc 0) (pos 3))
from_three a h = omega (arith, ints)

-- a begins a point exactly where it is from 0 to 3
pub within : (a : ℤ) → ExtendsWhole 2 triangle (a ∷ []) → Meets (a ∷ []) (line (negsuc 0) (pos 3)) × Meets (a ∷ []) (line (pos 1) (pos 0))
within a e =
    let p = e.point in
    let first : get_or p.x 0 (pos 0) ≡ p.d *ℤ a = e.begins 0 (omega arith) in
    let low = cancel p.d a p.divisor (lower_bound p.x p.d a p.width first p.meets) in
    let both : neg_ℤ (p.d *ℤ a) +ℤ (p.d *ℤ pos 3) ≡ p.d *ℤ (neg_ℤ a +ℤ pos 3) = ap (λ z. z +ℤ (p.d *ℤ pos 3)) (sym (mul-neg p.d a)) ∙ sym (mul-add p.d (neg_ℤ a) (pos 3)) in
    (from_three a (cancel p.d (neg_ℤ a +ℤ pos 3) p.divisor (subst (λ z. pos 0 ≤ℤ z) both (upper_bound p.x p.d a p.width first p.meets))), as_is a low)

begins_with : (a : ℤ) (j : ℕ) → j < 1 → get_or (a ∷ pos 0 ∷ []) j (pos 0) ≡ pos 1 *ℤ get_or (a ∷ []) j (pos 0)
begins_with a zero h = sym (one-mul a)
begins_with a (suc j) h = absurd (omega arith)

of_triangle : (whole : List ℤ) → length whole ≡ 1 → All (Meets whole) (line (negsuc 0) (pos 3) ∷ line (pos 1) (pos 0) ∷ []) ↔ ExtendsWhole 2 triangle whole
of_triangle [] l = absurd (omega arith)
of_triangle (a ∷ []) l = (
  (λ h. record {
    point = record {
      x = a ∷ pos 0 ∷ [];
      d = pos 1;
      width = refl;
      divisor = omega (arith, ints);
      meets = base_point a (All-head (Meets (a ∷ [])) (line (negsuc 0) (pos 3)) (line (pos 1) (pos 0) ∷ []) h) (All-head (Meets (a ∷ [])) (line (pos 1) (pos 0)) [] (All-tail (Meets (a ∷ [])) (line (negsuc 0) (pos 3)) (line (pos 1) (pos 0) ∷ []) h));
    };
    begins = begins_with a;
  }),
  (λ e. let w = within a e in two_lines (Meets (a ∷ [])) (line (negsuc 0) (pos 3)) (line (pos 1) (pos 0)) w.0 w.1),
)
of_triangle (a ∷ b ∷ whole) l = absurd (omega arith)

pub triangle_over_x : TriangleOverX
triangle_over_x = record {
  table = table;
  is_table = is_table;
  rows_of_table = two_lines (IsRowOfTable 1 2 triangle table) (line (negsuc 0) (pos 3)) (line (pos 1) (pos 0)) upper lower;
  same_points = of_triangle;
}

four_is_above : Meets (pos 4 ∷ []) (line (negsuc 0) (pos 3)) → ⊥
four_is_above h = absurd (omega (arith, ints))

pub one_row_is_too_few : OneRowIsTooFew
one_row_is_too_few made h = four_is_above (within (pos 4) ((h.same_points (pos 4 ∷ []) refl).0 (All-cons (Meets (pos 4 ∷ [])) (line (pos 1) (pos 0)) [] (omega (arith, ints)) (All-nil (Meets (pos 4 ∷ [])))))).0

two_is_not_one : ◌≡◌ {A = ℕ} 2 1 → ⊥
two_is_not_one e = absurd (omega arith)

divides_line : (j : ℕ) → j ≤ 1 → 2 ∣ unsigned_abs (entry_of (line (pos 2) (pos 0)) j)
divides_line zero h = dvd_refl 2
divides_line (suc zero) h = dvd-zero 2
divides_line (suc (suc j)) h = absurd (omega arith)

pub twice_is_not_least : TwiceIsNotLeast
twice_is_not_least made h = two_is_not_one ((h.rows_of_table 1 (line (pos 2) (pos 0)) (omega arith)).terms.least 2 divides_line)

two_above_one : 2 ≤ 1 → ⊥
two_above_one h = absurd (omega arith)

pub only_later_columns : OnlyLaterColumns
only_later_columns = (All-cons (λ p. 1 ≤ p.column) (pair 0 1 1) [] (omega arith) (All-nil (λ p. 1 ≤ p.column)), (λ h. two_above_one (All-head (λ p. 2 ≤ p.column) (pair 0 1 1) [] h)))

-- ---- No column kept, and all

no_column : (f g : ℕ → ℤ) (j : ℕ) → j < 0 → f j ≡ g j
no_column f g j h = absurd (omega arith)

one_one : AreFactors 1 1 1 1
one_one = record { divisor = 1; greatest = (dvd_refl 1, dvd_refl 1, λ d h k. h); first = refl; second = refl }

apart_next : IsNext 1 apart [] (owns 2 2) (pair 0 1 0)
apart_next = record {
  first_there = omega arith;
  second_there = omega arith;
  column_there = omega arith;
  positive = omega (arith, ints);
  negative = omega (arith, ints);
  cancelled = All-nil (λ q. q.column ≢ 0 → (coefficient apart (owns 2 2) 0 q.column ≡ pos 0) × (coefficient apart (owns 2 2) 1 q.column ≡ pos 0));
  other = All-nil (λ q. q ≢ pair 0 1 0);
}

abbrev minus_one : Affine
minus_one = record { coefs = []; constant = negsuc 0 }

sum_is_zero : (j : ℕ) → 0 ≤ j → j < 1 → coefficient apart (owns 2 2 ++ (1 ∷ 1 ∷ []) ∷ []) 2 j ≡ pos 0
sum_is_zero zero h k = refl
sum_is_zero (suc j) h k = absurd (omega arith)

minus_one_row : IsRowOfTable 0 1 apart (owns 2 2 ++ (1 ∷ 1 ∷ []) ∷ []) minus_one
minus_one_row = record {
  number = 2;
  there = omega arith;
  zeros = sum_is_zero;
  terms = record {
    divisor = 1;
    positive = omega arith;
    width = refl;
    coefs = no_column (coefficient apart (owns 2 2 ++ (1 ∷ 1 ∷ []) ∷ []) 2) (λ j. pos 1 *ℤ entry_of minus_one j);
    last = refl;
    least = λ k h. divisor_of_one k (h 0 (omega arith));
  };
}

lt02 : 0 < 2
lt02 = omega arith

lt12 : 1 < 2
lt12 = omega arith

no_sum : (p d : ℤ) → pos 1 ≤ℤ d → pos 0 ≤ℤ (((pos 1 *ℤ p) +ℤ pos 0) +ℤ (d *ℤ negsuc 2)) → pos 0 ≤ℤ (((negsuc 0 *ℤ p) +ℤ pos 0) +ℤ (d *ℤ pos 2)) → ⊥
no_sum p d one h k = absurd (omega (arith, ints))

no_point : (x : List ℤ) (d : ℤ) → length x ≡ 1 → pos 1 ≤ℤ d → All (Holds x d) apart → ⊥
no_point [] d l one h = absurd (omega arith)
no_point (p ∷ []) d l one h = no_sum p d one (h 0 (line (pos 0) (pos 0)) lt02) (h 1 (line (pos 0) (pos 0)) lt12)
no_point (p ∷ q ∷ x) d l one h = absurd (omega arith)

below_zero : pos 0 ≤ℤ negsuc 0 → ⊥
below_zero h = absurd (omega (arith, ints))

lt01 : 0 < 1
lt01 = omega arith

of_apart : (whole : List ℤ) → length whole ≡ 0 → All (Meets whole) (minus_one ∷ []) ↔ ExtendsWhole 1 apart whole
of_apart [] l = (
  (λ h. absurd (below_zero (h 0 minus_one lt01))),
  (λ e. absurd (no_point e.point.x e.point.d e.point.width e.point.divisor e.point.meets)),
)
of_apart (a ∷ whole) l = absurd (omega arith)

pub no_point_leaves_minus_one : NoPointLeavesMinusOne
no_point_leaves_minus_one = record {
  table = owns 2 2 ++ (1 ∷ 1 ∷ []) ∷ [];
  is_table = more [] (owns 2 2) (pair 0 1 0) (1 ∷ 1 ∷ []) none apart_next (record { s = 1; t = 1; factors = one_one; divided = whole_weights (1 ∷ 1 ∷ []) 0 (omega arith) refl refl });
  rows_of_table = All-cons (IsRowOfTable 0 1 apart (owns 2 2 ++ (1 ∷ 1 ∷ []) ∷ [])) minus_one [] minus_one_row (All-nil (IsRowOfTable 0 1 apart (owns 2 2 ++ (1 ∷ 1 ∷ []) ∷ [])));
  same_points = of_apart;
}

pub no_point_leaves_some_row : NoPointLeavesSomeRow
no_point_leaves_some_row made h =
    let e = (h.same_points [] refl).0 (All-nil (Meets [])) in
    no_point e.point.x e.point.d e.point.width e.point.divisor e.point.meets

abbrev segment : List Affine
segment = line (pos 1) (pos 0) ∷ line (negsuc 0) (pos 5) ∷ []

no_place : (j : ℕ) → j < 0 → get_or (pos 0 ∷ []) j (pos 0) ≡ pos 1 *ℤ get_or [] j (pos 0)
no_place j h = absurd (omega arith)

of_segment : (whole : List ℤ) → length whole ≡ 0 → All (Meets whole) [] ↔ ExtendsWhole 1 segment whole
of_segment [] l = (
  (λ h. record {
    point = record {
      x = pos 0 ∷ [];
      d = pos 1;
      width = refl;
      divisor = omega (arith, ints);
      meets = two_lines (Holds (pos 0 ∷ []) (pos 1)) (line (pos 1) (pos 0)) (line (negsuc 0) (pos 5)) (omega (arith, ints)) (omega (arith, ints));
    };
    begins = no_place;
  }),
  (λ e. All-nil (Meets [])),
)
of_segment (a ∷ whole) l = absurd (omega arith)

pub point_leaves_no_row : PointLeavesNoRow
point_leaves_no_row = record { table = owns 2 2; is_table = none; rows_of_table = All-nil (IsRowOfTable 0 1 segment (owns 2 2)); same_points = of_segment }

abbrev twice : List Affine
twice = line (pos 2) (negsuc 3) ∷ []

no_other : (j : ℕ) → 1 ≤ j → j < 1 → coefficient twice (owns 1 1) 0 j ≡ pos 0
no_other j h k = absurd (omega arith)

half : IsRowOfTable 1 1 twice (owns 1 1) (line (pos 1) (negsuc 1))
half = record {
  number = 0;
  there = omega arith;
  zeros = no_other;
  terms = record {
    divisor = 2;
    positive = omega arith;
    width = refl;
    coefs = first_only (coefficient twice (owns 1 1) 0) (λ j. pos 2 *ℤ entry_of (line (pos 1) (negsuc 1)) j) refl;
    last = refl;
    least = least_line (pos 1) (negsuc 1) refl;
  };
}

one_line : (P : Affine → Type 0) (f : Affine) → P f → All P (f ∷ [])
one_line P f a = All-cons P f [] a (All-nil P)

begins_alone : (a : ℤ) (j : ℕ) → j < 1 → get_or (a ∷ []) j (pos 0) ≡ pos 1 *ℤ get_or (a ∷ []) j (pos 0)
begins_alone a j h = sym (one-mul (get_or (a ∷ []) j (pos 0)))

doubled : (a : ℤ) → pos 0 ≤ℤ (((pos 1 *ℤ a) +ℤ pos 0) +ℤ negsuc 1) → pos 0 ≤ℤ (((pos 2 *ℤ a) +ℤ pos 0) +ℤ (pos 1 *ℤ negsuc 3))
doubled a h = omega (arith, ints)

halved : (p d t : ℤ) → p ≡ t → pos 0 ≤ℤ (((pos 2 *ℤ p) +ℤ pos 0) +ℤ (d *ℤ negsuc 3)) → pos 0 ≤ℤ (t +ℤ (d *ℤ negsuc 1))
halved p d t e h = omega (arith, ints)

half_bound : (x : List ℤ) (d a : ℤ) → length x ≡ 1 → get_or x 0 (pos 0) ≡ d *ℤ a → All (Holds x d) twice → pos 0 ≤ℤ ((d *ℤ a) +ℤ (d *ℤ negsuc 1))
half_bound [] d a l e h = absurd (omega arith)
half_bound (p ∷ []) d a l e h = halved p d (d *ℤ a) e (h 0 (line (pos 0) (pos 0)) lt01)
half_bound (p ∷ q ∷ x) d a l e h = absurd (omega arith)

less_two : (a : ℤ) → pos 0 ≤ℤ (a +ℤ negsuc 1) → Meets (a ∷ []) (line (pos 1) (negsuc 1))
less_two a h = omega (arith, ints)

of_twice : (whole : List ℤ) → length whole ≡ 1 → All (Meets whole) (line (pos 1) (negsuc 1) ∷ []) ↔ ExtendsWhole 1 twice whole
of_twice [] l = absurd (omega arith)
of_twice (a ∷ []) l = (
  (λ h. record {
    point = record {
      x = a ∷ [];
      d = pos 1;
      width = refl;
      divisor = omega (arith, ints);
      meets = one_line (Holds (a ∷ []) (pos 1)) (line (pos 2) (negsuc 3)) (doubled a (h 0 (line (pos 0) (pos 0)) lt01));
    };
    begins = begins_alone a;
  }),
  (λ e.
      let p = e.point in
      one_line (Meets (a ∷ [])) (line (pos 1) (negsuc 1))
      (less_two a (cancel p.d (a +ℤ negsuc 1) p.divisor (subst (λ z. pos 0 ≤ℤ z) (sym (mul-add p.d a (negsuc 1))) (half_bound p.x p.d a p.width (e.begins 0 lt01) p.meets))))),
)
of_twice (a ∷ b ∷ whole) l = absurd (omega arith)

pub all_columns_are_kept : AllColumnsAreKept
all_columns_are_kept = record { table = owns 1 1; is_table = none; rows_of_table = one_line (IsRowOfTable 1 1 twice (owns 1 1)) (line (pos 1) (negsuc 1)) half; same_points = of_twice }
