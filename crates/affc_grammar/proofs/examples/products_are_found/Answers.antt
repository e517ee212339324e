-- By computation.
use Rattle.std.proofs.Common.{refl}
use Rattle.affc_grammar.specs.Verdict.{computing}
use Rattle.affc_grammar.proofs.examples.products_are_found.Goals as goal

pub returns-clause-in_lows : goal.returns-clause-in_lows
unfolding computing
returns-clause-in_lows c = refl

pub returns-clause-in_highs : goal.returns-clause-in_highs
unfolding computing
returns-clause-in_highs c = refl

pub returns-clause-in_left_sides : goal.returns-clause-in_left_sides
unfolding computing
returns-clause-in_left_sides c = refl

pub returns-clause-in_right_sides : goal.returns-clause-in_right_sides
unfolding computing
returns-clause-in_right_sides c = refl

pub returns-clause-in_loads : goal.returns-clause-in_loads
unfolding computing
returns-clause-in_loads c = refl

pub returns-clause-in_casts : goal.returns-clause-in_casts
unfolding computing
returns-clause-in_casts c = refl

pub returns-clause-in_temporaries : goal.returns-clause-in_temporaries
unfolding computing
returns-clause-in_temporaries c = refl

pub returns-clause-in_parameters : goal.returns-clause-in_parameters
unfolding computing
returns-clause-in_parameters c = refl

pub returns-clause-in_contexts : goal.returns-clause-in_contexts
unfolding computing
returns-clause-in_contexts c = refl

pub returns-clause-in_locals : goal.returns-clause-in_locals
unfolding computing
returns-clause-in_locals c = refl

pub returns-clause-in_bodies : goal.returns-clause-in_bodies
unfolding computing
returns-clause-in_bodies c = refl

pub returns-clause-in_parts : goal.returns-clause-in_parts
unfolding computing
returns-clause-in_parts c = refl

pub returns-clause-first_of_two : goal.returns-clause-first_of_two
unfolding computing
returns-clause-first_of_two c = refl

pub returns-clause-in_quotients : goal.returns-clause-in_quotients
unfolding computing
returns-clause-in_quotients c = refl
