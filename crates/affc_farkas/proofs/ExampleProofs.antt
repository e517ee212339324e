-- What the definitions give at small systems.
use Rattle.std.proofs.Common.{◌≡◌, ◌≢◌, ℕ, List, [], ◌∷◌, ◌++◌, length, map, drop, get_or, ◌*◌, ◌%◌, pos, negsuc, ◌<ℤ◌, refl, ap, subst, ◌∙◌, arith}
use Rattle.std.proofs.lemmas.Int.{ints}
use Rattle.std.proofs.lemmas.List.{length_push}
use Rattle.std.proofs.lemmas.List.Elements.{All-nil, All-cons, All-head}
use Rattle.std.proofs.lemmas.Nat.Gcd.{dvd_refl, dvd_of_mod-eq-zero}
use Rattle.std.specs.List.{All}
use Prim.Native.Nat.{◌∣◌}
use Rattle.affc_rows.specs.Forms.{Affine}
use Rattle.affc_farkas.specs.Eliminations.{owns, coefficient, AreFactors, AreDivided, IsNext, IsTable, none, more}
use Rattle.affc_farkas.specs.Examples.{pair, apart, above, OnePairCancels, NoPairTwice, FirstIsPositive, AddedRowsAreNext, CancelledStaysCancelled}
use Rattle.affc_farkas.specs.declared.pair.Pair.{Pair}

-- ---- The last pair of an elimination

last_same : (xs ys : List Pair) (x y : Pair) → xs ++ x ∷ [] ≡ ys ++ y ∷ [] → (xs ≡ ys) × (x ≡ y)
last_same [] [] x y e = (refl, ap (λ l. get_or l 0 x) e)
last_same [] (b ∷ ys) x y e = absurd (omega (arith, ap length e, length_push ys y))
last_same (a ∷ xs) [] x y e = absurd (omega (arith, ap length e, length_push xs x))
last_same (a ∷ xs) (b ∷ ys) x y e =
    let r = last_same xs ys x y (ap (λ l. drop 1 l) e) in
    (ap (λ h. h ∷ xs) (ap (λ l. get_or l 0 a) e) ∙ ap (λ l. b ∷ l) r.0, r.1)

-- the table before the last pair, by whose rules it is the next
record LastPair (columns : ℕ) (rows : List Affine) (made : List Pair) (p : Pair) (table : List (List ℕ)) : Type 0 where
  before : List (List ℕ)
  weights : List ℕ
  is_table : IsTable columns rows made before
  next : IsNext columns rows made before p
  grown : table ≡ before ++ weights ∷ []

last_pair : (columns : ℕ) (rows : List Affine) {all : List Pair} {table : List (List ℕ)} → IsTable columns rows all table
    → (made : List Pair) (p : Pair) → all ≡ made ++ p ∷ [] → LastPair columns rows made p table
last_pair columns rows none made p e = absurd (omega (arith, ap length e, length_push made p))
last_pair columns rows (more made' table p' weights t n a) made p e =
    let s = last_same made' made p' p e in
    record {
      before = table;
      weights = weights;
      is_table = subst (λ m. IsTable columns rows m table) s.0 t;
      next = subst (λ q. IsNext columns rows made table q) s.1 (subst (λ m. IsNext columns rows m table p') s.0 n);
      grown = refl;
    }

no_pairs : (columns : ℕ) (rows : List Affine) {made : List Pair} {table : List (List ℕ)} → IsTable columns rows made table → made ≡ [] → table ≡ owns (length rows) (length rows)
no_pairs columns rows none e = refl
no_pairs columns rows (more made table p weights t n a) e = absurd (omega (arith, ap length e, length_push made p))

-- ---- Divisors

one_divides : (n : ℕ) → n % 1 ≡ 0 → 1 ∣ n
one_divides n e = dvd_of_mod-eq-zero 1 e

whole_weights : (weights : List ℕ) → weights ≡ 1 ∷ drop 1 weights → map (λ w. 1 * w) weights ≡ weights → AreDivided weights weights
whole_weights weights e q = record {
  divisor = 1;
  positive = omega arith;
  greatest = λ k h. All-head (λ w. k ∣ w) 1 (drop 1 weights) (subst (λ l. All (λ w. k ∣ w) l) e h);
  quotients = q;
}

-- ---- x - 3 and 2 - x

one_one : AreFactors 1 1 1 1
one_one = record { divisor = 1; greatest = (dvd_refl 1, dvd_refl 1, λ d h k. h); first = refl; second = refl }

first_next : IsNext 1 apart [] (owns 2 2) (pair 0 1 0)
first_next = record {
  first_there = omega arith;
  second_there = omega arith;
  column_there = omega arith;
  positive = omega (arith, ints);
  negative = omega (arith, ints);
  cancelled = All-nil (λ q. q.column ≢ 0 → (coefficient apart (owns 2 2) 0 q.column ≡ pos 0) × (coefficient apart (owns 2 2) 1 q.column ≡ pos 0));
  other = All-nil (λ q. q ≢ pair 0 1 0);
}

pub one_pair_cancels : OnePairCancels
one_pair_cancels = record {
  table = owns 2 2 ++ (1 ∷ 1 ∷ []) ∷ [];
  is_table = more [] (owns 2 2) (pair 0 1 0) (1 ∷ 1 ∷ []) none first_next (record { s = 1; t = 1; factors = one_one; divided = whole_weights (1 ∷ 1 ∷ []) refl refl });
}

pub no_pair_twice : NoPairTwice
no_pair_twice e =
    let l = last_pair 1 apart e.is_table (pair 0 1 0 ∷ []) (pair 0 1 0) refl in
    All-head (λ q. q ≢ pair 0 1 0) (pair 0 1 0) [] l.next.other refl

never_positive : pos 0 <ℤ negsuc 0 → ⊥
never_positive h = omega (arith, ints)

pub first_is_positive : FirstIsPositive
first_is_positive e =
    let l = last_pair 1 apart e.is_table [] (pair 1 0 0) refl in
    never_positive (subst (λ t. pos 0 <ℤ coefficient apart t 1 0) (no_pairs 1 apart l.is_table refl) l.next.positive)

-- ---- x + y, y - x and -y - 1

one_two : AreFactors 2 1 1 2
one_two = record { divisor = 1; greatest = (one_divides 2 refl, dvd_refl 1, λ d h k. k); first = refl; second = refl }

abbrev first_table : List (List ℕ)
first_table = owns 3 3 ++ (1 ∷ 1 ∷ 0 ∷ []) ∷ []

zero_next : IsNext 2 above [] (owns 3 3) (pair 0 1 0)
zero_next = record {
  first_there = omega arith;
  second_there = omega arith;
  column_there = omega arith;
  positive = omega (arith, ints);
  negative = omega (arith, ints);
  cancelled = All-nil (λ q. q.column ≢ 0 → (coefficient above (owns 3 3) 0 q.column ≡ pos 0) × (coefficient above (owns 3 3) 1 q.column ≡ pos 0));
  other = All-nil (λ q. q ≢ pair 0 1 0);
}

not_first : pair 0 1 0 ≢ pair 3 2 1
not_first e = absurd (omega (arith, ap (λ q. q.column) e))

three_next : IsNext 2 above (pair 0 1 0 ∷ []) first_table (pair 3 2 1)
three_next = record {
  first_there = omega arith;
  second_there = omega arith;
  column_there = omega arith;
  positive = omega (arith, ints);
  negative = omega (arith, ints);
  cancelled = All-cons (λ q. q.column ≢ 1 → (coefficient above first_table 3 q.column ≡ pos 0) × (coefficient above first_table 2 q.column ≡ pos 0)) (pair 0 1 0) [] (λ _. (refl, refl))
      (All-nil (λ q. q.column ≢ 1 → (coefficient above first_table 3 q.column ≡ pos 0) × (coefficient above first_table 2 q.column ≡ pos 0)));
  other = All-cons (λ q. q ≢ pair 3 2 1) (pair 0 1 0) [] not_first (All-nil (λ q. q ≢ pair 3 2 1));
}

pub added_rows_are_next : AddedRowsAreNext
added_rows_are_next = record {
  table = first_table ++ (1 ∷ 1 ∷ 2 ∷ []) ∷ [];
  is_table = more (pair 0 1 0 ∷ []) first_table (pair 3 2 1) (1 ∷ 1 ∷ 2 ∷ [])
      (more [] (owns 3 3) (pair 0 1 0) (1 ∷ 1 ∷ 0 ∷ []) none zero_next (record { s = 1; t = 1; factors = one_one; divided = whole_weights (1 ∷ 1 ∷ 0 ∷ []) refl refl }))
      three_next (record { s = 1; t = 2; factors = one_two; divided = whole_weights (1 ∷ 1 ∷ 2 ∷ []) refl refl });
}

other_column : (pair 0 1 0).column ≢ (pair 0 2 1).column
other_column e = absurd (omega (arith, e))

never_zero : pos 1 ≡ pos 0 → ⊥
never_zero e = omega (arith, ints)

pub cancelled_stays_cancelled : CancelledStaysCancelled
cancelled_stays_cancelled e =
    let l = last_pair 2 above e.is_table (pair 0 1 0 ∷ []) (pair 0 2 1) refl in
    let k = last_pair 2 above l.is_table [] (pair 0 1 0) refl in
    let t : l.before ≡ owns 3 3 ++ k.weights ∷ [] = k.grown ∙ ap (λ t. t ++ k.weights ∷ []) (no_pairs 2 above k.is_table refl) in
    let z = All-head (λ q. q.column ≢ 1 → (coefficient above l.before 0 q.column ≡ pos 0) × (coefficient above l.before 2 q.column ≡ pos 0)) (pair 0 1 0) [] l.next.cancelled in
    never_zero (subst (λ t. coefficient above t 0 0 ≡ pos 0) t (z other_column).0)
