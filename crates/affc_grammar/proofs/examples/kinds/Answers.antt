-- By computation.
use Rattle.std.proofs.Common.{refl}
use Rattle.affc_grammar.specs.Verdict.{computing}
use Rattle.affc_grammar.proofs.examples.kinds.Goals as goal

pub returns-clause-stores_to_inputs : goal.returns-clause-stores_to_inputs
unfolding computing
returns-clause-stores_to_inputs c = refl

pub returns-clause-numbers_of_subscripts : goal.returns-clause-numbers_of_subscripts
unfolding computing
returns-clause-numbers_of_subscripts c = refl

pub returns-clause-an_array_is_no_number : goal.returns-clause-an_array_is_no_number
unfolding computing
returns-clause-an_array_is_no_number c = refl

pub returns-clause-a_number_is_no_array : goal.returns-clause-a_number_is_no_array
unfolding computing
returns-clause-a_number_is_no_array c = refl

pub returns-clause-keywords : goal.returns-clause-keywords
unfolding computing
returns-clause-keywords c = refl

pub returns-clause-names_of_the_prelude : goal.returns-clause-names_of_the_prelude
unfolding computing
returns-clause-names_of_the_prelude c = refl

pub returns-clause-names_of_types : goal.returns-clause-names_of_types
unfolding computing
returns-clause-names_of_types c = refl

pub returns-clause-main : goal.returns-clause-main
unfolding computing
returns-clause-main c = refl

pub returns-clause-reserved_on_a_line : goal.returns-clause-reserved_on_a_line
unfolding computing
returns-clause-reserved_on_a_line c = refl

pub returns-clause-time_iterators : goal.returns-clause-time_iterators
unfolding computing
returns-clause-time_iterators c = refl

pub returns-clause-no_time_locals : goal.returns-clause-no_time_locals
unfolding computing
returns-clause-no_time_locals c = refl

pub returns-clause-no_time_iterators_without_the_prelude : goal.returns-clause-no_time_iterators_without_the_prelude
unfolding computing
returns-clause-no_time_iterators_without_the_prelude c = refl

pub returns-clause-const_before_kind : goal.returns-clause-const_before_kind
unfolding computing
returns-clause-const_before_kind c = refl

pub returns-clause-twice_before_reserved : goal.returns-clause-twice_before_reserved
unfolding computing
returns-clause-twice_before_reserved c = refl

pub returns-clause-time_names_have_no_leading_zero : goal.returns-clause-time_names_have_no_leading_zero
unfolding computing
returns-clause-time_names_have_no_leading_zero c = refl

pub returns-clause-other_time_iterators : goal.returns-clause-other_time_iterators
unfolding computing
returns-clause-other_time_iterators c = refl

pub returns-clause-subscripts_of_loads : goal.returns-clause-subscripts_of_loads
unfolding computing
returns-clause-subscripts_of_loads c = refl

pub returns-clause-no_time_temporaries : goal.returns-clause-no_time_temporaries
unfolding computing
returns-clause-no_time_temporaries c = refl

pub returns-clause-no_time_parameters : goal.returns-clause-no_time_parameters
unfolding computing
returns-clause-no_time_parameters c = refl
