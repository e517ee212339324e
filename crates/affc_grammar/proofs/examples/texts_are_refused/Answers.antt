-- By computation.
use Rattle.std.proofs.Common.{refl}
use Rattle.affc_grammar.specs.Verdict.{computing}
use Rattle.affc_grammar.proofs.examples.texts_are_refused.Goals as goal

pub returns-clause-a_parameter_is_needed : goal.returns-clause-a_parameter_is_needed
unfolding computing
returns-clause-a_parameter_is_needed c = refl

pub returns-clause-no_const_numbers : goal.returns-clause-no_const_numbers
unfolding computing
returns-clause-no_const_numbers c = refl

pub returns-clause-declarations_stand_first : goal.returns-clause-declarations_stand_first
unfolding computing
returns-clause-declarations_stand_first c = refl

pub returns-clause-locals_stand_first : goal.returns-clause-locals_stand_first
unfolding computing
returns-clause-locals_stand_first c = refl

pub returns-clause-nothing_behind_the_function : goal.returns-clause-nothing_behind_the_function
unfolding computing
returns-clause-nothing_behind_the_function c = refl

pub returns-clause-numbers_are_no_values : goal.returns-clause-numbers_are_no_values
unfolding computing
returns-clause-numbers_are_no_values c = refl
