-- By computation.
use Rattle.std.proofs.Common.{refl}
use Rattle.affc_grammar.specs.Verdict.{computing}
use Rattle.affc_grammar.proofs.examples.limits_of_conditions.Goals as goal

pub returns-clause-sixteen_pieces : goal.returns-clause-sixteen_pieces
unfolding computing
returns-clause-sixteen_pieces c = refl

pub returns-clause-more_pieces : goal.returns-clause-more_pieces
unfolding computing
returns-clause-more_pieces c = refl

pub returns-clause-pieces_of_the_denial : goal.returns-clause-pieces_of_the_denial
unfolding computing
returns-clause-pieces_of_the_denial c = refl

pub returns-clause-pieces_of_nested_ifs : goal.returns-clause-pieces_of_nested_ifs
unfolding computing
returns-clause-pieces_of_nested_ifs c = refl

pub returns-clause-wide_pieces : goal.returns-clause-wide_pieces
unfolding computing
returns-clause-wide_pieces c = refl

pub returns-clause-comparisons_behind_else : goal.returns-clause-comparisons_behind_else
unfolding computing
returns-clause-comparisons_behind_else c = refl

pub returns-clause-too_many_comparisons_behind_else : goal.returns-clause-too_many_comparisons_behind_else
unfolding computing
returns-clause-too_many_comparisons_behind_else c = refl

pub returns-clause-greatest_divisor : goal.returns-clause-greatest_divisor
unfolding computing
returns-clause-greatest_divisor c = refl

pub returns-clause-large_divisor : goal.returns-clause-large_divisor
unfolding computing
returns-clause-large_divisor c = refl

pub returns-clause-wide_divisor : goal.returns-clause-wide_divisor
unfolding computing
returns-clause-wide_divisor c = refl

pub returns-clause-too_wide_divisor : goal.returns-clause-too_wide_divisor
unfolding computing
returns-clause-too_wide_divisor c = refl

pub returns-clause-assignment_behind_else : goal.returns-clause-assignment_behind_else
unfolding computing
returns-clause-assignment_behind_else c = refl

pub returns-clause-empty_behind_else : goal.returns-clause-empty_behind_else
unfolding computing
returns-clause-empty_behind_else c = refl

pub returns-clause-values_of_remainders : goal.returns-clause-values_of_remainders
unfolding computing
returns-clause-values_of_remainders c = refl
