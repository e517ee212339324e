-- By computation.
use Rattle.std.proofs.Common.{refl}
use Rattle.affc_grammar.specs.Verdict.{computing}
use Rattle.affc_grammar.proofs.examples.limits_are_counted.Goals as goal

pub returns-clause-differences_add_up : goal.returns-clause-differences_add_up
unfolding computing
returns-clause-differences_add_up c = refl

pub returns-clause-literal_in_a_wide_sum : goal.returns-clause-literal_in_a_wide_sum
unfolding computing
returns-clause-literal_in_a_wide_sum c = refl

pub returns-clause-stores_are_accesses : goal.returns-clause-stores_are_accesses
unfolding computing
returns-clause-stores_are_accesses c = refl

pub returns-clause-parameters_have_dimensions : goal.returns-clause-parameters_have_dimensions
unfolding computing
returns-clause-parameters_have_dimensions c = refl

pub returns-clause-least_place : goal.returns-clause-least_place
unfolding computing
returns-clause-least_place c = refl

pub returns-clause-inner_empty : goal.returns-clause-inner_empty
unfolding computing
returns-clause-inner_empty c = refl

pub returns-clause-wide_comparisons : goal.returns-clause-wide_comparisons
unfolding computing
returns-clause-wide_comparisons c = refl

pub returns-clause-left_of_a_product : goal.returns-clause-left_of_a_product
unfolding computing
returns-clause-left_of_a_product c = refl

pub returns-clause-differences_are_taken : goal.returns-clause-differences_are_taken
unfolding computing
returns-clause-differences_are_taken c = refl

pub returns-clause-products_are_taken : goal.returns-clause-products_are_taken
unfolding computing
returns-clause-products_are_taken c = refl

pub returns-clause-literal_in_a_call : goal.returns-clause-literal_in_a_call
unfolding computing
returns-clause-literal_in_a_call c = refl

pub returns-clause-literal_behind_a_comma : goal.returns-clause-literal_behind_a_comma
unfolding computing
returns-clause-literal_behind_a_comma c = refl

pub returns-clause-literal_in_a_quotient : goal.returns-clause-literal_in_a_quotient
unfolding computing
returns-clause-literal_in_a_quotient c = refl

pub returns-clause-loops_round_nothing : goal.returns-clause-loops_round_nothing
unfolding computing
returns-clause-loops_round_nothing c = refl
