-- Each example computes.
use Rattle.std.proofs.Common.{◌≡◌, ℕ, ◌<◌, ◌≤◌, ◌≤ℤ◌, pos, true, false, true≢false, refl, sym, inl, inr, arith, lit≤}
use Rattle.std.proofs.lemmas.Int.{ints}
use denote.Hole.Carrier.{hidden}
use Rattle.affc_ast.specs.declared.tree.Ix.TheBlock.{shape-the_row-Ix-0, hidden-the_row-Ix-0}
use Rattle.affc_ast.specs.declared.tree.Val.TheBlock.{shape-the_row-Val-0, hidden-the_row-Val-0}
use Rattle.affc_ast.specs.declared.tree.Cond.TheBlock.{shape-the_row-Cond-0, hidden-the_row-Cond-0}
use Rattle.affc_ast.specs.declared.tree.Stmt.TheBlock.{shape-the_row-Stmt-0, hidden-the_row-Stmt-0}
use Rattle.affc_domain.specs.Examples.{AccessesInOrder, ArraysInOrder, UnitsOfColumns, FormsOfSums, WhichAreAffine, SmallForms, SmallInEachPart, NamesInSight, RoundsOfTheTriangle, LoopsGoOn, TriangleTurns, NothingTurnsInside, LoopsRound, ComparisonsRound, NumbersOfLoops, SharedLoops, BeforeByIterators, OrderOfTheSharedLoop, RangesOfNumbers, RangeOfALoop, RangesOfTheTriangle, NearEnds, RangesThatPass, OneTurnIsEntered, WithinRanges, FirstWide, PlainExpressions, PlainTests, PlainValues, PlainRanges, PlainDeclarations, UpwardLoops, SixteenAccesses, PlainAssignments, SixLoops, PlainLoops, ThirtyTwoComparisons, PlainConditions, NoLocals, TriangleIsPlain, LimitsOfPrograms, PartsOfPrograms, FullLoops, OnlyJoinedTests}

pub accesses_in_order : AccessesInOrder
unfolding shape-the_row-Ix-0 hidden-the_row-Ix-0 shape-the_row-Val-0 hidden-the_row-Val-0 shape-the_row-Stmt-0 hidden-the_row-Stmt-0 shape-the_row-Cond-0 hidden-the_row-Cond-0 hidden
accesses_in_order = (refl, refl)

pub arrays_in_order : ArraysInOrder
unfolding shape-the_row-Ix-0 hidden-the_row-Ix-0 shape-the_row-Val-0 hidden-the_row-Val-0 shape-the_row-Stmt-0 hidden-the_row-Stmt-0 shape-the_row-Cond-0 hidden-the_row-Cond-0 hidden
arrays_in_order = (refl, refl)

pub units_of_columns : UnitsOfColumns
unfolding shape-the_row-Ix-0 hidden-the_row-Ix-0 shape-the_row-Val-0 hidden-the_row-Val-0 shape-the_row-Stmt-0 hidden-the_row-Stmt-0 shape-the_row-Cond-0 hidden-the_row-Cond-0 hidden
units_of_columns = (refl, refl)

pub forms_of_sums : FormsOfSums
unfolding shape-the_row-Ix-0 hidden-the_row-Ix-0 shape-the_row-Val-0 hidden-the_row-Val-0 shape-the_row-Stmt-0 hidden-the_row-Stmt-0 shape-the_row-Cond-0 hidden-the_row-Cond-0 hidden
forms_of_sums = (refl, refl, refl, refl, refl)

pub which_are_affine : WhichAreAffine
unfolding shape-the_row-Ix-0 hidden-the_row-Ix-0 shape-the_row-Val-0 hidden-the_row-Val-0 shape-the_row-Stmt-0 hidden-the_row-Stmt-0 shape-the_row-Cond-0 hidden-the_row-Cond-0 hidden
which_are_affine = (refl, refl, refl)

pub small_forms : SmallForms
unfolding shape-the_row-Ix-0 hidden-the_row-Ix-0 shape-the_row-Val-0 hidden-the_row-Val-0 shape-the_row-Stmt-0 hidden-the_row-Stmt-0 shape-the_row-Cond-0 hidden-the_row-Cond-0 hidden
small_forms = (refl, refl)

pub small_in_each_part : SmallInEachPart
unfolding shape-the_row-Ix-0 hidden-the_row-Ix-0 shape-the_row-Val-0 hidden-the_row-Val-0 shape-the_row-Stmt-0 hidden-the_row-Stmt-0 shape-the_row-Cond-0 hidden-the_row-Cond-0 hidden
small_in_each_part = (refl, refl)

pub names_in_sight : NamesInSight
unfolding shape-the_row-Ix-0 hidden-the_row-Ix-0 shape-the_row-Val-0 hidden-the_row-Val-0 shape-the_row-Stmt-0 hidden-the_row-Stmt-0 shape-the_row-Cond-0 hidden-the_row-Cond-0 hidden
names_in_sight = (refl, refl, refl, refl)

pub rounds_of_the_triangle : RoundsOfTheTriangle
unfolding shape-the_row-Ix-0 hidden-the_row-Ix-0 shape-the_row-Val-0 hidden-the_row-Val-0 shape-the_row-Stmt-0 hidden-the_row-Stmt-0 shape-the_row-Cond-0 hidden-the_row-Cond-0 hidden
rounds_of_the_triangle = refl

pub loops_go_on : LoopsGoOn
unfolding shape-the_row-Ix-0 hidden-the_row-Ix-0 shape-the_row-Val-0 hidden-the_row-Val-0 shape-the_row-Stmt-0 hidden-the_row-Stmt-0 shape-the_row-Cond-0 hidden-the_row-Cond-0 hidden
loops_go_on = (refl, refl, refl, refl, refl, refl)

pub triangle_turns : TriangleTurns
unfolding shape-the_row-Ix-0 hidden-the_row-Ix-0 shape-the_row-Val-0 hidden-the_row-Val-0 shape-the_row-Stmt-0 hidden-the_row-Stmt-0 shape-the_row-Cond-0 hidden-the_row-Cond-0 hidden
triangle_turns = (refl, refl, refl, refl, refl, refl)

pub nothing_turns_inside : NothingTurnsInside
unfolding shape-the_row-Ix-0 hidden-the_row-Ix-0 shape-the_row-Val-0 hidden-the_row-Val-0 shape-the_row-Stmt-0 hidden-the_row-Stmt-0 shape-the_row-Cond-0 hidden-the_row-Cond-0 hidden
nothing_turns_inside = (refl, refl)

pub loops_round : LoopsRound
unfolding shape-the_row-Ix-0 hidden-the_row-Ix-0 shape-the_row-Val-0 hidden-the_row-Val-0 shape-the_row-Stmt-0 hidden-the_row-Stmt-0 shape-the_row-Cond-0 hidden-the_row-Cond-0 hidden
loops_round = refl

pub comparisons_round : ComparisonsRound
unfolding shape-the_row-Ix-0 hidden-the_row-Ix-0 shape-the_row-Val-0 hidden-the_row-Val-0 shape-the_row-Stmt-0 hidden-the_row-Stmt-0 shape-the_row-Cond-0 hidden-the_row-Cond-0 hidden
comparisons_round = refl

pub numbers_of_loops : NumbersOfLoops
unfolding shape-the_row-Ix-0 hidden-the_row-Ix-0 shape-the_row-Val-0 hidden-the_row-Val-0 shape-the_row-Stmt-0 hidden-the_row-Stmt-0 shape-the_row-Cond-0 hidden-the_row-Cond-0 hidden
numbers_of_loops = refl

pub shared_loops : SharedLoops
unfolding shape-the_row-Ix-0 hidden-the_row-Ix-0 shape-the_row-Val-0 hidden-the_row-Val-0 shape-the_row-Stmt-0 hidden-the_row-Stmt-0 shape-the_row-Cond-0 hidden-the_row-Cond-0 hidden
shared_loops = (refl, refl, refl, refl, refl)

pub order_of_the_shared_loop : OrderOfTheSharedLoop
unfolding shape-the_row-Ix-0 hidden-the_row-Ix-0 shape-the_row-Val-0 hidden-the_row-Val-0 shape-the_row-Stmt-0 hidden-the_row-Stmt-0 shape-the_row-Cond-0 hidden-the_row-Cond-0 hidden
order_of_the_shared_loop = refl

pub ranges_of_numbers : RangesOfNumbers
unfolding shape-the_row-Ix-0 hidden-the_row-Ix-0 shape-the_row-Val-0 hidden-the_row-Val-0 shape-the_row-Stmt-0 hidden-the_row-Stmt-0 shape-the_row-Cond-0 hidden-the_row-Cond-0 hidden
ranges_of_numbers = refl

pub range_of_a_loop : RangeOfALoop
unfolding shape-the_row-Ix-0 hidden-the_row-Ix-0 shape-the_row-Val-0 hidden-the_row-Val-0 shape-the_row-Stmt-0 hidden-the_row-Stmt-0 shape-the_row-Cond-0 hidden-the_row-Cond-0 hidden
range_of_a_loop = (refl, refl)

pub ranges_of_the_triangle : RangesOfTheTriangle
unfolding shape-the_row-Ix-0 hidden-the_row-Ix-0 shape-the_row-Val-0 hidden-the_row-Val-0 shape-the_row-Stmt-0 hidden-the_row-Stmt-0 shape-the_row-Cond-0 hidden-the_row-Cond-0 hidden
ranges_of_the_triangle = refl

pub near_ends : NearEnds
unfolding shape-the_row-Ix-0 hidden-the_row-Ix-0 shape-the_row-Val-0 hidden-the_row-Val-0 shape-the_row-Stmt-0 hidden-the_row-Stmt-0 shape-the_row-Cond-0 hidden-the_row-Cond-0 hidden
near_ends = refl

pub ranges_that_pass : RangesThatPass
unfolding shape-the_row-Ix-0 hidden-the_row-Ix-0 shape-the_row-Val-0 hidden-the_row-Val-0 shape-the_row-Stmt-0 hidden-the_row-Stmt-0 shape-the_row-Cond-0 hidden-the_row-Cond-0 hidden
ranges_that_pass = (refl, refl, refl, refl, refl, refl, refl, refl)

pub one_turn_is_entered : OneTurnIsEntered
unfolding shape-the_row-Ix-0 hidden-the_row-Ix-0 shape-the_row-Val-0 hidden-the_row-Val-0 shape-the_row-Stmt-0 hidden-the_row-Stmt-0 shape-the_row-Cond-0 hidden-the_row-Cond-0 hidden
one_turn_is_entered = (refl, refl)

pub first_wide : FirstWide
unfolding shape-the_row-Ix-0 hidden-the_row-Ix-0 shape-the_row-Val-0 hidden-the_row-Val-0 shape-the_row-Stmt-0 hidden-the_row-Stmt-0 shape-the_row-Cond-0 hidden-the_row-Cond-0 hidden
first_wide = (refl, refl, refl)

pub plain_expressions : PlainExpressions
unfolding shape-the_row-Ix-0 hidden-the_row-Ix-0 shape-the_row-Val-0 hidden-the_row-Val-0 shape-the_row-Stmt-0 hidden-the_row-Stmt-0 shape-the_row-Cond-0 hidden-the_row-Cond-0 hidden
plain_expressions = (refl, refl, refl, refl, refl, refl)

pub plain_tests : PlainTests
unfolding shape-the_row-Ix-0 hidden-the_row-Ix-0 shape-the_row-Val-0 hidden-the_row-Val-0 shape-the_row-Stmt-0 hidden-the_row-Stmt-0 shape-the_row-Cond-0 hidden-the_row-Cond-0 hidden
plain_tests = (refl, refl, refl)

pub plain_values : PlainValues
unfolding shape-the_row-Ix-0 hidden-the_row-Ix-0 shape-the_row-Val-0 hidden-the_row-Val-0 shape-the_row-Stmt-0 hidden-the_row-Stmt-0 shape-the_row-Cond-0 hidden-the_row-Cond-0 hidden
plain_values = (refl, refl, refl)

pub plain_ranges : PlainRanges
unfolding shape-the_row-Ix-0 hidden-the_row-Ix-0 shape-the_row-Val-0 hidden-the_row-Val-0 shape-the_row-Stmt-0 hidden-the_row-Stmt-0 shape-the_row-Cond-0 hidden-the_row-Cond-0 hidden
plain_ranges = (refl, refl, refl)

pub plain_declarations : PlainDeclarations
unfolding shape-the_row-Ix-0 hidden-the_row-Ix-0 shape-the_row-Val-0 hidden-the_row-Val-0 shape-the_row-Stmt-0 hidden-the_row-Stmt-0 shape-the_row-Cond-0 hidden-the_row-Cond-0 hidden
plain_declarations = (refl, refl, refl)

pub upward_loops : UpwardLoops
unfolding shape-the_row-Ix-0 hidden-the_row-Ix-0 shape-the_row-Val-0 hidden-the_row-Val-0 shape-the_row-Stmt-0 hidden-the_row-Stmt-0 shape-the_row-Cond-0 hidden-the_row-Cond-0 hidden
upward_loops = refl

pub sixteen_accesses : SixteenAccesses
unfolding shape-the_row-Ix-0 hidden-the_row-Ix-0 shape-the_row-Val-0 hidden-the_row-Val-0 shape-the_row-Stmt-0 hidden-the_row-Stmt-0 shape-the_row-Cond-0 hidden-the_row-Cond-0 hidden
sixteen_accesses = (refl, refl, refl, refl)

pub plain_assignments : PlainAssignments
unfolding shape-the_row-Ix-0 hidden-the_row-Ix-0 shape-the_row-Val-0 hidden-the_row-Val-0 shape-the_row-Stmt-0 hidden-the_row-Stmt-0 shape-the_row-Cond-0 hidden-the_row-Cond-0 hidden
plain_assignments = (refl, refl, refl)

pub six_loops : SixLoops
unfolding shape-the_row-Ix-0 hidden-the_row-Ix-0 shape-the_row-Val-0 hidden-the_row-Val-0 shape-the_row-Stmt-0 hidden-the_row-Stmt-0 shape-the_row-Cond-0 hidden-the_row-Cond-0 hidden
six_loops = (refl, refl, refl)

pub plain_loops : PlainLoops
unfolding shape-the_row-Ix-0 hidden-the_row-Ix-0 shape-the_row-Val-0 hidden-the_row-Val-0 shape-the_row-Stmt-0 hidden-the_row-Stmt-0 shape-the_row-Cond-0 hidden-the_row-Cond-0 hidden
plain_loops = (refl, refl, refl, refl, refl, refl)

pub thirty_two_comparisons : ThirtyTwoComparisons
unfolding shape-the_row-Ix-0 hidden-the_row-Ix-0 shape-the_row-Val-0 hidden-the_row-Val-0 shape-the_row-Stmt-0 hidden-the_row-Stmt-0 shape-the_row-Cond-0 hidden-the_row-Cond-0 hidden
thirty_two_comparisons = (refl, refl, refl, refl)

pub plain_conditions : PlainConditions
unfolding shape-the_row-Ix-0 hidden-the_row-Ix-0 shape-the_row-Val-0 hidden-the_row-Val-0 shape-the_row-Stmt-0 hidden-the_row-Stmt-0 shape-the_row-Cond-0 hidden-the_row-Cond-0 hidden
plain_conditions = (refl, refl, refl)

pub no_locals : NoLocals
unfolding shape-the_row-Ix-0 hidden-the_row-Ix-0 shape-the_row-Val-0 hidden-the_row-Val-0 shape-the_row-Stmt-0 hidden-the_row-Stmt-0 shape-the_row-Cond-0 hidden-the_row-Cond-0 hidden
no_locals = (refl, refl, refl)

-- ---- Order

too_high : (m n : ℕ) → n < m → pos m ≤ℤ pos n → ⊥
too_high m n h k = omega (arith, ints)

not_same : (m n : ℕ) → n < m → pos m ≡ pos n → ⊥
not_same m n h k = omega (arith, ints)

pub before_by_iterators : BeforeByIterators
before_by_iterators = (
  inl (omega (arith, ints)),
  λ h. elim h [ inl a ↦ too_high 3 1 (omega arith) a | inr q ↦ not_same 2 1 (omega arith) q.0 ],
  inr (refl, inl (omega (arith, ints))),
  λ h. elim h [ inl a ↦ too_high 2 1 (omega arith) a | inr q ↦ elim q.1 [ inl b ↦ too_high 4 2 (omega arith) b | inr r ↦ not_same 3 2 (omega arith) r.0 ] ],
  inr (refl, tt),
  λ h. elim h [ inl a ↦ too_high 2 1 (omega arith) a | inr q ↦ q.1 ],
  λ h. elim h [ inl a ↦ too_high 2 1 (omega arith) a | inr q ↦ elim q.1 [ inl b ↦ too_high 3 2 (omega arith) b | inr r ↦ r.1 ] ],
  λ h. h,
  λ h. h,
)

pub within_ranges : WithinRanges
within_ranges = ((omega (arith, ints), omega (arith, ints), tt), λ h. too_high 4 3 (omega arith) h.1, λ h. h, tt)

-- ---- Plain programs

no_false : false ≡ true → ⊥
no_false e = true≢false (sym e)

five_pass : 5 ≤ 4 → ⊥
five_pass h = omega arith

seventeen_pass : 17 ≤ 16 → ⊥
seventeen_pass h = omega arith

sixty_five_pass : 65 ≤ 64 → ⊥
sixty_five_pass h = omega arith

pub triangle_is_plain : TriangleIsPlain
unfolding shape-the_row-Ix-0 hidden-the_row-Ix-0 shape-the_row-Val-0 hidden-the_row-Val-0 shape-the_row-Stmt-0 hidden-the_row-Stmt-0 shape-the_row-Cond-0 hidden-the_row-Cond-0 hidden
triangle_is_plain = record { few_numbers = lit≤ tt; ranges = refl; few_conditions = lit≤ tt; context = refl; arrays = refl; temps = refl; body = refl; full = refl; tests = refl; few_assignments = lit≤ tt }

pub limits_of_programs : LimitsOfPrograms
unfolding shape-the_row-Ix-0 hidden-the_row-Ix-0 shape-the_row-Val-0 hidden-the_row-Val-0 shape-the_row-Stmt-0 hidden-the_row-Stmt-0 shape-the_row-Cond-0 hidden-the_row-Cond-0 hidden
limits_of_programs = (record { few_numbers = lit≤ tt; ranges = refl; few_conditions = lit≤ tt; context = refl; arrays = refl; temps = refl; body = refl; full = refl; tests = refl; few_assignments = lit≤ tt }, λ h. five_pass h.few_numbers, λ h. seventeen_pass h.few_conditions, λ h. sixty_five_pass h.few_assignments)

pub parts_of_programs : PartsOfPrograms
unfolding shape-the_row-Ix-0 hidden-the_row-Ix-0 shape-the_row-Val-0 hidden-the_row-Val-0 shape-the_row-Stmt-0 hidden-the_row-Stmt-0 shape-the_row-Cond-0 hidden-the_row-Cond-0 hidden
parts_of_programs = (λ h. no_false h.ranges, λ h. no_false h.context, λ h. no_false h.arrays, λ h. no_false h.temps, λ h. no_false h.body)

pub full_loops : FullLoops
unfolding shape-the_row-Ix-0 hidden-the_row-Ix-0 shape-the_row-Val-0 hidden-the_row-Val-0 shape-the_row-Stmt-0 hidden-the_row-Stmt-0 shape-the_row-Cond-0 hidden-the_row-Cond-0 hidden
full_loops = (
  record { few_numbers = lit≤ tt; ranges = refl; few_conditions = lit≤ tt; context = refl; arrays = refl; temps = refl; body = refl; full = refl; tests = refl; few_assignments = lit≤ tt },
  record { few_numbers = lit≤ tt; ranges = refl; few_conditions = lit≤ tt; context = refl; arrays = refl; temps = refl; body = refl; full = refl; tests = refl; few_assignments = lit≤ tt },
  λ h. no_false h.full,
  λ h. no_false h.full,
  λ h. no_false h.full,
  λ h. no_false h.full,
  λ h. no_false h.full,
  λ h. no_false h.full,
)

pub only_joined_tests : OnlyJoinedTests
unfolding shape-the_row-Ix-0 hidden-the_row-Ix-0 shape-the_row-Val-0 hidden-the_row-Val-0 shape-the_row-Stmt-0 hidden-the_row-Stmt-0 shape-the_row-Cond-0 hidden-the_row-Cond-0 hidden
only_joined_tests = (λ h. no_false h.tests, λ h. no_false h.tests, λ h. no_false h.context)
