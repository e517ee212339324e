-- By computation.
use Rattle.std.proofs.Common.{refl}
use Rattle.affc_grammar.specs.Verdict.{computing}
use Rattle.affc_grammar.proofs.examples.names.Goals as goal

pub returns-clause-unknown : goal.returns-clause-unknown
unfolding computing
returns-clause-unknown c = refl

pub returns-clause-iterators_end : goal.returns-clause-iterators_end
unfolding computing
returns-clause-iterators_end c = refl

pub returns-clause-not_in_its_own_bounds : goal.returns-clause-not_in_its_own_bounds
unfolding computing
returns-clause-not_in_its_own_bounds c = refl

pub returns-clause-unknown_second_word : goal.returns-clause-unknown_second_word
unfolding computing
returns-clause-unknown_second_word c = refl

pub returns-clause-other_second_word : goal.returns-clause-other_second_word
unfolding computing
returns-clause-other_second_word c = refl

pub returns-clause-other_third_word : goal.returns-clause-other_third_word
unfolding computing
returns-clause-other_third_word c = refl

pub returns-clause-own_extent : goal.returns-clause-own_extent
unfolding computing
returns-clause-own_extent c = refl

pub returns-clause-iterator_twice : goal.returns-clause-iterator_twice
unfolding computing
returns-clause-iterator_twice c = refl

pub returns-clause-function_and_parameter : goal.returns-clause-function_and_parameter
unfolding computing
returns-clause-function_and_parameter c = refl

pub returns-clause-range_twice : goal.returns-clause-range_twice
unfolding computing
returns-clause-range_twice c = refl

pub returns-clause-range_of_nothing : goal.returns-clause-range_of_nothing
unfolding computing
returns-clause-range_of_nothing c = refl

pub returns-clause-range_of_an_array : goal.returns-clause-range_of_an_array
unfolding computing
returns-clause-range_of_an_array c = refl

pub returns-clause-no_range : goal.returns-clause-no_range
unfolding computing
returns-clause-no_range c = refl

pub returns-clause-temporaries_aren_t_seen_before : goal.returns-clause-temporaries_aren_t_seen_before
unfolding computing
returns-clause-temporaries_aren_t_seen_before c = refl

pub returns-clause-latest_of_a_name : goal.returns-clause-latest_of_a_name
unfolding computing
returns-clause-latest_of_a_name c = refl
