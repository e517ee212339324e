-- By computation.
use Rattle.std.proofs.Common.{refl}
use Rattle.affc_grammar.specs.Verdict.{computing}
use Rattle.affc_grammar.proofs.examples.names_are_seen.Goals as goal

pub returns-clause-function_on_lines : goal.returns-clause-function_on_lines
unfolding computing
returns-clause-function_on_lines c = refl

pub returns-clause-function_is_no_array : goal.returns-clause-function_is_no_array
unfolding computing
returns-clause-function_is_no_array c = refl

pub returns-clause-function_is_no_number : goal.returns-clause-function_is_no_number
unfolding computing
returns-clause-function_is_no_number c = refl

pub returns-clause-later_parameters : goal.returns-clause-later_parameters
unfolding computing
returns-clause-later_parameters c = refl

pub returns-clause-earlier_temporaries : goal.returns-clause-earlier_temporaries
unfolding computing
returns-clause-earlier_temporaries c = refl

pub returns-clause-own_value : goal.returns-clause-own_value
unfolding computing
returns-clause-own_value c = refl

pub returns-clause-temporary_twice : goal.returns-clause-temporary_twice
unfolding computing
returns-clause-temporary_twice c = refl

pub returns-clause-parameter_twice : goal.returns-clause-parameter_twice
unfolding computing
returns-clause-parameter_twice c = refl

pub returns-clause-iterator_comes_before_low : goal.returns-clause-iterator_comes_before_low
unfolding computing
returns-clause-iterator_comes_before_low c = refl

pub returns-clause-low_comes_before_the_second_word : goal.returns-clause-low_comes_before_the_second_word
unfolding computing
returns-clause-low_comes_before_the_second_word c = refl

pub returns-clause-second_word_comes_before_high : goal.returns-clause-second_word_comes_before_high
unfolding computing
returns-clause-second_word_comes_before_high c = refl

pub returns-clause-high_comes_before_the_third_word : goal.returns-clause-high_comes_before_the_third_word
unfolding computing
returns-clause-high_comes_before_the_third_word c = refl
