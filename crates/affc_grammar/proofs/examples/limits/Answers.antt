-- By computation.
use Rattle.std.proofs.Common.{refl}
use Rattle.affc_grammar.specs.Verdict.{computing}
use Rattle.affc_grammar.proofs.examples.limits.Goals as goal

pub returns-clause-fifth_parameter : goal.returns-clause-fifth_parameter
unfolding computing
returns-clause-fifth_parameter c = refl

pub returns-clause-empty_range : goal.returns-clause-empty_range
unfolding computing
returns-clause-empty_range c = refl

pub returns-clause-widest_range : goal.returns-clause-widest_range
unfolding computing
returns-clause-widest_range c = refl

pub returns-clause-range_too_wide : goal.returns-clause-range_too_wide
unfolding computing
returns-clause-range_too_wide c = refl

pub returns-clause-seventh_loop : goal.returns-clause-seventh_loop
unfolding computing
returns-clause-seventh_loop c = refl

pub returns-clause-empty_loop : goal.returns-clause-empty_loop
unfolding computing
returns-clause-empty_loop c = refl

pub returns-clause-empty_loops_with_the_prelude : goal.returns-clause-empty_loops_with_the_prelude
unfolding computing
returns-clause-empty_loops_with_the_prelude c = refl

pub returns-clause-accesses : goal.returns-clause-accesses
unfolding computing
returns-clause-accesses c = refl

pub returns-clause-too_many_accesses : goal.returns-clause-too_many_accesses
unfolding computing
returns-clause-too_many_accesses c = refl

pub returns-clause-four_dimensions : goal.returns-clause-four_dimensions
unfolding computing
returns-clause-four_dimensions c = refl

pub returns-clause-five_dimensions : goal.returns-clause-five_dimensions
unfolding computing
returns-clause-five_dimensions c = refl

pub returns-clause-comparisons_of_lines : goal.returns-clause-comparisons_of_lines
unfolding computing
returns-clause-comparisons_of_lines c = refl

pub returns-clause-high_end_too_far : goal.returns-clause-high_end_too_far
unfolding computing
returns-clause-high_end_too_far c = refl

pub returns-clause-empty_if : goal.returns-clause-empty_if
unfolding computing
returns-clause-empty_if c = refl

pub returns-clause-statements_of_a_text : goal.returns-clause-statements_of_a_text
unfolding computing
returns-clause-statements_of_a_text c = refl

pub returns-clause-too_many_statements : goal.returns-clause-too_many_statements
unfolding computing
returns-clause-too_many_statements c = refl

pub returns-clause-comparisons_of_ifs : goal.returns-clause-comparisons_of_ifs
unfolding computing
returns-clause-comparisons_of_ifs c = refl

pub returns-clause-too_many_comparisons_of_ifs : goal.returns-clause-too_many_comparisons_of_ifs
unfolding computing
returns-clause-too_many_comparisons_of_ifs c = refl

pub returns-clause-thirteenth_loop : goal.returns-clause-thirteenth_loop
unfolding computing
returns-clause-thirteenth_loop c = refl
