-- By computation.
use Rattle.std.proofs.Common.{refl}
use Rattle.affc_grammar.specs.Verdict.{computing}
use Rattle.affc_grammar.proofs.examples.grammar.Goals as goal

pub returns-clause-empty : goal.returns-clause-empty
unfolding computing
returns-clause-empty c = refl

pub returns-clause-only_the_include_line : goal.returns-clause-only_the_include_line
unfolding computing
returns-clause-only_the_include_line c = refl

pub returns-clause-no_statement : goal.returns-clause-no_statement
unfolding computing
returns-clause-no_statement c = refl

pub returns-clause-steps_are_by_one : goal.returns-clause-steps_are_by_one
unfolding computing
returns-clause-steps_are_by_one c = refl

pub returns-clause-shifts_are_below_64 : goal.returns-clause-shifts_are_below_64
unfolding computing
returns-clause-shifts_are_below_64 c = refl

pub returns-clause-conditions_in_parentheses : goal.returns-clause-conditions_in_parentheses
unfolding computing
returns-clause-conditions_in_parentheses c = refl

pub returns-clause-expressions_in_parentheses : goal.returns-clause-expressions_in_parentheses
unfolding computing
returns-clause-expressions_in_parentheses c = refl

pub returns-clause-an_expression_is_no_condition : goal.returns-clause-an_expression_is_no_condition
unfolding computing
returns-clause-an_expression_is_no_condition c = refl

pub returns-clause-calls_want_the_prelude : goal.returns-clause-calls_want_the_prelude
unfolding computing
returns-clause-calls_want_the_prelude c = refl

pub returns-clause-calls_before_the_function : goal.returns-clause-calls_before_the_function
unfolding computing
returns-clause-calls_before_the_function c = refl

pub returns-clause-calls_with_the_prelude : goal.returns-clause-calls_with_the_prelude
unfolding computing
returns-clause-calls_with_the_prelude c = refl

pub returns-clause-divisors_are_at_least_one : goal.returns-clause-divisors_are_at_least_one
unfolding computing
returns-clause-divisors_are_at_least_one c = refl

pub returns-clause-divisors_are_numbers : goal.returns-clause-divisors_are_numbers
unfolding computing
returns-clause-divisors_are_numbers c = refl

pub returns-clause-steps_by_a_sum : goal.returns-clause-steps_by_a_sum
unfolding computing
returns-clause-steps_by_a_sum c = refl

pub returns-clause-loops_go_up : goal.returns-clause-loops_go_up
unfolding computing
returns-clause-loops_go_up c = refl

pub returns-clause-one_minus_before_an_atom : goal.returns-clause-one_minus_before_an_atom
unfolding computing
returns-clause-one_minus_before_an_atom c = refl

pub returns-clause-minus_a_negation : goal.returns-clause-minus_a_negation
unfolding computing
returns-clause-minus_a_negation c = refl

pub returns-clause-arrays_have_a_dimension : goal.returns-clause-arrays_have_a_dimension
unfolding computing
returns-clause-arrays_have_a_dimension c = refl

pub returns-clause-shifts_of_63 : goal.returns-clause-shifts_of_63
unfolding computing
returns-clause-shifts_of_63 c = refl

pub returns-clause-divisors_of_one : goal.returns-clause-divisors_of_one
unfolding computing
returns-clause-divisors_of_one c = refl

pub returns-clause-calls_on_lines : goal.returns-clause-calls_on_lines
unfolding computing
returns-clause-calls_on_lines c = refl
