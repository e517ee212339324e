-- The examples, computed.
use Rattle.std.proofs.Common.{◌≡◌, ℕ, zero, suc, ◌+◌, ◌^◌, ◌<◌, ◌≤◌, ℤ, pos, negsuc, ◌≤ℤ◌, if◌then◌else◌, List, [], ◌∷◌, ◌++◌, length, take, replicate, Option, Some, refl, sym, ap, subst, ◌∙◌, inr, arith}
use Rattle.std.specs.Prelude.{nat_eq, int_lt, ◌&&◌, unsigned_abs, slice_get}
use Rattle.std.specs.Cmp.Lexicographic.{slice_cmp}
use Rattle.std.specs.List.{All}
use Rattle.std.specs.Ordering.{is_eq, int_cmp}
use Rattle.std.proofs.lemmas.Int.{ints}
use Rattle.std.proofs.lemmas.List.{length-replicate}
use Rattle.std.proofs.lemmas.List.Elements.{All-nil, All-cons, All-head}
use denote.Hole.Carrier.{hidden}
use Rattle.affc_ast.specs.declared.tree.Ix.TheBlock.{shape-the_row-Ix-0, hidden-the_row-Ix-0}
use Rattle.affc_ast.specs.declared.tree.Val.TheBlock.{shape-the_row-Val-0, hidden-the_row-Val-0}
use Rattle.affc_ast.specs.declared.tree.Stmt.TheBlock.{shape-the_row-Stmt-0, hidden-the_row-Stmt-0}
use Rattle.affc_rows.specs.Forms.{Affine, value, values_of, mixed_form}
use Rattle.affc_system.specs.Systems.{Rows, IsRow, IsPoint}
use Rattle.affc_system.specs.Examples.{form, below_n}
use Rattle.affc_system.specs.declared.pairs.PairSystem.{PairSystem}
use Rattle.affc_ast.specs.declared.tree.Rel.TheVariants.{Equal}
use Rattle.affc_farkas.specs.Examples.{line, apart}
use Rattle.affc_farkas.specs.Multiples.{multiple_sum, entry_of}
use Rattle.affc_trace.specs.Examples.{blur}
use Rattle.affc_trace.proofs.Runs.{length_append}
use Rattle.affc_basis.specs.Examples.{x0, one_more}
use Rattle.affc_domain.proofs.Lists.{stands_in}
use Rattle.affc_nest.specs.Domains.{gap_row, compare_rows, number_form, with_rows}
use Rattle.affc_nest.specs.Nests.{nest_of, nowhere}
use Rattle.affc_nest.specs.Questions.{with_row, whole_context}
use Rattle.affc_nest.proofs.DomainLemmas.{from_all, to_all}
use Rattle.affc_conflicts.specs.Questions.{distance, over_columns}
use Rattle.affc_quast.specs.Trees.{Tree}
use Rattle.affc_quast.specs.Trees as tree
use Rattle.affc_check.specs.Examples.{stored_at, blur_trees, blur_items, context_with, CountsOfTheBlur, ContextIsFirst, ExtentsAreNext, BoundsAreNext, TreesAreNext, ScheduleIsNext, NoneIsValid, is_positive, MarksInOrder, DistancesBetween, PairIsTurned, NothingIsShown, PairInOrder, ModuliAreMarked, between, from_three, sum_of_both, first_alone, OneProofEach, EachIsLookedAt, QuestionsKeepLimits, FewRowsAtNodes}
use Rattle.affc_check.specs.list.Items.{Item, Question, Shown}
use Rattle.affc_check.specs.Valid.{IsProved, AreValid}
use Rattle.affc_check.proofs.Marks.{nothing_shown}
use Rattle.affc_check.proofs.Sound.{each_holds}

-- ---- The blur

pub counts : CountsOfTheBlur
unfolding shape-the_row-Ix-0 hidden-the_row-Ix-0 shape-the_row-Val-0 hidden-the_row-Val-0 shape-the_row-Stmt-0 hidden-the_row-Stmt-0 hidden
counts = (refl, refl, refl, refl, refl)

pub context_is_first : ContextIsFirst
unfolding shape-the_row-Ix-0 hidden-the_row-Ix-0 shape-the_row-Val-0 hidden-the_row-Val-0 shape-the_row-Stmt-0 hidden-the_row-Stmt-0 hidden
context_is_first = refl

pub extents_are_next : ExtentsAreNext
unfolding shape-the_row-Ix-0 hidden-the_row-Ix-0 shape-the_row-Val-0 hidden-the_row-Val-0 shape-the_row-Stmt-0 hidden-the_row-Stmt-0 hidden
extents_are_next = refl

pub bounds_are_next : BoundsAreNext
unfolding shape-the_row-Ix-0 hidden-the_row-Ix-0 shape-the_row-Val-0 hidden-the_row-Val-0 shape-the_row-Stmt-0 hidden-the_row-Stmt-0 hidden
bounds_are_next = refl

pub trees_are_next : TreesAreNext
unfolding shape-the_row-Ix-0 hidden-the_row-Ix-0 shape-the_row-Val-0 hidden-the_row-Val-0 shape-the_row-Stmt-0 hidden-the_row-Stmt-0 hidden
trees_are_next = refl

pub schedule_is_next : ScheduleIsNext
unfolding shape-the_row-Ix-0 hidden-the_row-Ix-0 shape-the_row-Val-0 hidden-the_row-Val-0 shape-the_row-Stmt-0 hidden-the_row-Stmt-0 hidden
schedule_is_next = refl

whole_is : whole_context (nest_of blur) ≡ record { columns = 1; rows = context_with [] }
unfolding shape-the_row-Ix-0 hidden-the_row-Ix-0 shape-the_row-Val-0 hidden-the_row-Val-0 shape-the_row-Stmt-0 hidden-the_row-Stmt-0 hidden
whole_is = refl

below : pos 0 ≤ℤ negsuc 0 → ⊥
below h = omega (arith, ints, h)

five_is_none : IsPoint (record { columns = 1; rows = context_with [] }) (pos 5 ∷ []) → ⊥
five_is_none is = below (from_all (pos 5 ∷ []) (context_with []) is.meets).1.0

no_proofs : AreValid (blur_items (pos 1 ∷ []) blur_trees) [] → ⊥
unfolding shape-the_row-Ix-0 hidden-the_row-Ix-0 shape-the_row-Val-0 hidden-the_row-Val-0 shape-the_row-Stmt-0 hidden-the_row-Stmt-0 hidden
no_proofs v = v.1

-- the path at N = 1 and i = 0, where i + 1 is greater than i
abbrev wrong_trees : List Tree
wrong_trees = tree.Input ∷ stored_at (pos 1) ∷ stored_at (pos 1) ∷ stored_at (pos 2) ∷ []

abbrev wrong_rows : List Affine
wrong_rows =
    form (pos 1) (pos 0) (negsuc 0) ∷ form (negsuc 0) (pos 0) (pos 4)
    ∷ form (pos 0) (pos 1) (pos 0) ∷ form (pos 1) (negsuc 0) (negsuc 0) ∷ form (pos 0) (pos 1) (pos 0) ∷ form (pos 0) (negsuc 0) (pos 3)
    ∷ form (pos 0) (pos 0) (pos 0) ∷ []

wrong_is_asked : slice_get (blur_items (pos 1 ∷ []) wrong_trees) 22 ≡ Some (Question (record { columns = 2; rows = wrong_rows }))
unfolding shape-the_row-Ix-0 hidden-the_row-Ix-0 shape-the_row-Val-0 hidden-the_row-Val-0 shape-the_row-Stmt-0 hidden-the_row-Stmt-0 hidden
wrong_is_asked = refl

zero_is : pos 0 ≤ℤ pos 0
zero_is = omega (arith, ints)

three_is_more : pos 0 ≤ℤ pos 3
three_is_more = omega (arith, ints)

wrong_point : IsPoint (record { columns = 2; rows = wrong_rows }) (pos 1 ∷ pos 0 ∷ [])
wrong_point = record { width = refl; meets = to_all (pos 1 ∷ pos 0 ∷ []) wrong_rows (zero_is, (three_is_more, (zero_is, (zero_is, (zero_is, (three_is_more, (zero_is, tt))))))) }

pub none_is_valid : NoneIsValid
none_is_valid = (
  λ proofs v. five_is_none (subst (λ s. IsPoint s (pos 5 ∷ [])) whole_is v.0),
  no_proofs,
  λ proofs v. each_holds (blur_items (pos 1 ∷ []) wrong_trees) proofs v (Question (record { columns = 2; rows = wrong_rows }))
      (stands_in (blur_items (pos 1 ∷ []) wrong_trees) 22 (Question (record { columns = 2; rows = wrong_rows })) wrong_is_asked) (pos 1 ∷ pos 0 ∷ []) wrong_point,
)

-- ---- Folds

pub marks_in_order : MarksInOrder
marks_in_order = refl

pub moduli_are_marked : ModuliAreMarked
moduli_are_marked = refl

-- what is made of a pair system depends on its system and on the subscripts alone
module _ (s : PairSystem) (xs ys : List Affine) (points : s.system ≡ below_n) (first : s.x.items ≡ xs) (second : s.y.items ≡ ys) where
  of_parts : {A : Type 0} → (make : Rows → List Affine → List Affine → A) → make s.system s.x.items s.y.items ≡ make below_n xs ys
  of_parts {A} make = ap (λ q. make q s.x.items s.y.items) points ∙ ap (λ fs. make below_n fs s.y.items) first ∙ ap (make below_n xs) second

abbrev lower : List Affine
lower = form (pos 0) (pos 1) (pos 0) ∷ []

abbrev upper : List Affine
upper = form (pos 0) (pos 1) (pos 1) ∷ []

abbrev question : Rows → List Affine → List Affine → Item
question q xs ys = Question (with_row (with_rows q []) (gap_row (over_columns q.columns one_more) (distance x0 xs ys) 0))

pub distances_between : DistancesBetween
distances_between s are = of_parts s lower upper are.points are.first are.second (λ q xs ys. is_positive ∷ question q xs ys ∷ question q ys xs ∷ [])

abbrev shown_by : (point : List ℤ) → Rows → List Affine → List Affine → Item
shown_by point q xs ys = Shown (
    with_rows (with_rows q []) (
    compare_rows Equal (distance x0 xs ys) (mixed_form (pos 1) (over_columns q.columns one_more) (negsuc 0) (number_form q.columns (pos 1)))
    ++ gap_row (number_form q.columns (pos 1)) (distance x0 xs ys) 0 ∷ [])) point

abbrev pair_by : (point : List ℤ) → Rows → List Affine → List Affine → Item
pair_by point q xs ys =
    if nat_eq (length point) q.columns && is_eq (slice_cmp int_cmp (take 1 point) (pos 3 ∷ []))
    then (if int_lt (value (distance x0 xs ys) point) (pos 0) then shown_by point q ys xs else shown_by point q xs ys)
    else Shown (nowhere 0) []

pub pair_is_turned : PairIsTurned
pair_is_turned = (
  λ s are. of_parts s lower upper are.points are.first are.second (pair_by (pos 3 ∷ pos 2 ∷ [])),
  λ s are. of_parts s upper lower are.points are.first are.second (pair_by (pos 3 ∷ pos 2 ∷ [])),
)

pub nothing_is_shown : NothingIsShown
nothing_is_shown s are = (
  refl,
  refl,
  of_parts s lower upper are.points are.first are.second (pair_by (pos 3 ∷ pos 2 ∷ pos 0 ∷ [])),
  of_parts s lower upper are.points are.first are.second (pair_by (pos 4 ∷ pos 2 ∷ [])),
  nothing_shown,
)

abbrev elements_by : Rows → List Affine → List Affine → Option (List ℤ × List ℤ)
elements_by q xs ys =
    if int_lt (value (distance x0 xs ys) (pos 3 ∷ pos 2 ∷ [])) (pos 0)
    then Some (values_of xs (pos 3 ∷ pos 2 ∷ []), values_of ys (pos 3 ∷ pos 2 ∷ []))
    else Some (values_of ys (pos 3 ∷ pos 2 ∷ []), values_of xs (pos 3 ∷ pos 2 ∷ []))

pub pair_in_order : PairInOrder
pair_in_order = (λ s are. of_parts s lower upper are.points are.first are.second elements_by, λ s are. of_parts s upper lower are.points are.first are.second elements_by)

-- ---- Proofs

small_row : (a b : ℤ) → unsigned_abs a ≤ 2 ^ 40 → unsigned_abs b ≤ 2 ^ 60 → IsRow 1 (line a b)
small_row a b h g = record { width = refl; fits = record { coefs_fit = All-cons (λ c. unsigned_abs c ≤ 2 ^ 40) a [] h (All-nil (λ c. unsigned_abs c ≤ 2 ^ 40)); constant_fits = g } }

both_proved : IsProved between sum_of_both
both_proved = record {
  columns = omega arith;
  rows = All-cons (IsRow 1) (line (pos 1) (negsuc 2)) (line (negsuc 0) (pos 2) ∷ []) (small_row (pos 1) (negsuc 2) (omega arith) (omega arith))
      (All-cons (IsRow 1) (line (negsuc 0) (pos 2)) [] (small_row (negsuc 0) (pos 2) (omega arith) (omega arith)) (All-nil (IsRow 1)));
  valid = record {
    multipliers = record {
      few = omega arith;
      positive = pairs (λ p. 1 ≤ p.1) (omega arith) (omega arith);
      small = pairs (λ p. p.1 ≤ 2 ^ 53) (omega arith) (omega arith);
      rising = (All-cons (λ q. 0 < q.0) (1, 1) [] (omega arith) (All-nil (λ q. 0 < q.0)), (All-nil (λ q. 1 < q.0), tt));
    };
    there = pairs (λ p. p.0 < 2) (omega arith) (omega arith);
    cancels = cancels;
    negative = omega (arith, ints);
  };
  few = λ rows e. subst (λ r. length r ≤ 1024) (sym e) (omega arith);
}
  where
    pairs : (P : ℕ × ℕ → Type 0) → P (0, 1) → P (1, 1) → All P ((0, 1) ∷ (1, 1) ∷ [])
    pairs P a b = All-cons P (0, 1) ((1, 1) ∷ []) a (All-cons P (1, 1) [] b (All-nil P))

    cancels : (j : ℕ) → j < 1 → entry_of (multiple_sum 1 apart ((0, 1) ∷ (1, 1) ∷ [])) j ≡ pos 0
    cancels zero h = refl
    cancels (suc j) h = absurd (omega (arith, h))

first_is_none : IsProved between first_alone → ⊥
first_is_none h = one (h.valid.cancels 0 (omega arith))
  where
    one : pos 1 ≡ pos 0 → ⊥
    one e = omega (arith, ints, e)

three_shown : IsPoint from_three (pos 3 ∷ [])
three_shown = record { width = refl; meets = to_all (pos 3 ∷ []) (line (pos 1) (negsuc 2) ∷ []) (zero_is, tt) }

two_not_shown : IsPoint from_three (pos 2 ∷ []) → ⊥
two_not_shown is = below (from_all (pos 2 ∷ []) (line (pos 1) (negsuc 2) ∷ []) is.meets).0

pub one_proof_each : OneProofEach
one_proof_each = ((three_shown, (both_proved, tt)), (both_proved, (three_shown, tt)), λ v. v.1, λ v. first_is_none v.1.0)

pub each_is_looked_at : EachIsLookedAt
each_is_looked_at = (λ v. two_not_shown v.0, λ v. first_is_none v.0, λ v. two_not_shown v.1.0)

pub questions_keep_limits : QuestionsKeepLimits
questions_keep_limits = (λ rows proof h. too_many h.columns, λ proof h. too_large (All-head (λ c. unsigned_abs c ≤ 2 ^ 40) (pos (2 ^ 40 + 1)) [] (All-head (IsRow 1) (line (pos (2 ^ 40 + 1)) (pos 0)) apart h.rows).fits.coefs_fit))
  where
    too_many : 129 ≤ 128 → ⊥
    too_many h = omega (arith, h)

    too_large : unsigned_abs (pos (2 ^ 40 + 1)) ≤ 2 ^ 40 → ⊥
    too_large h = omega (arith, h)

abbrev padding : ℕ → List Affine
padding n = replicate n (line (pos 0) (pos 0)) ++ apart

padding_long : (n : ℕ) → length (padding n) ≡ n + 2
padding_long n = length_append (replicate n (line (pos 0) (pos 0))) apart ∙ ap (λ k. k + 2) (length-replicate n (line (pos 0) (pos 0)))

pub few_rows_at_nodes : FewRowsAtNodes
few_rows_at_nodes = (
  λ by h. over (length (padding 1023)) (padding_long 1023) (h.few (padding 1023) refl),
  λ by more g row p h. over_by (length (padding 1022 ++ row ∷ [])) (length_append (padding 1022) (row ∷ []) ∙ ap (λ k. k + 1) (padding_long 1022)) (h.few (padding 1022 ++ row ∷ []) (inr refl)),
)
  where
    over : (n : ℕ) → n ≡ 1023 + 2 → n ≤ 1024 → ⊥
    over n e h = omega (arith, e, h)

    over_by : (n : ℕ) → n ≡ (1022 + 2) + 1 → n ≤ 1024 → ⊥
    over_by n e h = omega (arith, e, h)
