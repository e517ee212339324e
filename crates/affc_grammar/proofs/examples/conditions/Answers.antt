-- By computation.
use Rattle.std.proofs.Common.{refl}
use Rattle.affc_grammar.specs.Verdict.{computing}
use Rattle.affc_grammar.proofs.examples.conditions.Goals as goal

pub returns-clause-any_of_all : goal.returns-clause-any_of_all
unfolding computing
returns-clause-any_of_all c = refl

pub returns-clause-any_in_parentheses : goal.returns-clause-any_in_parentheses
unfolding computing
returns-clause-any_in_parentheses c = refl

pub returns-clause-remainders : goal.returns-clause-remainders
unfolding computing
returns-clause-remainders c = refl

pub returns-clause-remainders_of_terms : goal.returns-clause-remainders_of_terms
unfolding computing
returns-clause-remainders_of_terms c = refl

pub returns-clause-remainders_of_sums : goal.returns-clause-remainders_of_sums
unfolding computing
returns-clause-remainders_of_sums c = refl

pub returns-clause-remainders_in_parentheses : goal.returns-clause-remainders_in_parentheses
unfolding computing
returns-clause-remainders_in_parentheses c = refl

pub returns-clause-remainders_are_no_expressions : goal.returns-clause-remainders_are_no_expressions
unfolding computing
returns-clause-remainders_are_no_expressions c = refl

pub returns-clause-remainders_by_at_least_one : goal.returns-clause-remainders_by_at_least_one
unfolding computing
returns-clause-remainders_by_at_least_one c = refl

pub returns-clause-remainders_are_zero_or_not : goal.returns-clause-remainders_are_zero_or_not
unfolding computing
returns-clause-remainders_are_zero_or_not c = refl

pub returns-clause-remainders_are_not_ordered : goal.returns-clause-remainders_are_not_ordered
unfolding computing
returns-clause-remainders_are_not_ordered c = refl

pub returns-clause-no_any_on_lines : goal.returns-clause-no_any_on_lines
unfolding computing
returns-clause-no_any_on_lines c = refl

pub returns-clause-no_unequal_on_lines : goal.returns-clause-no_unequal_on_lines
unfolding computing
returns-clause-no_unequal_on_lines c = refl

pub returns-clause-no_remainders_on_lines : goal.returns-clause-no_remainders_on_lines
unfolding computing
returns-clause-no_remainders_on_lines c = refl

pub returns-clause-no_remainders_in_subscripts : goal.returns-clause-no_remainders_in_subscripts
unfolding computing
returns-clause-no_remainders_in_subscripts c = refl
