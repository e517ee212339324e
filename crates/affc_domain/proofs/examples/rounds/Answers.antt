use Rattle.affc_domain.proofs.ExampleProofs as x
use Rattle.affc_domain.proofs.examples.rounds.Goals as goal

pub returns : goal.returns
returns c = record { rounds_of_the_triangle = x.rounds_of_the_triangle; loops_go_on = x.loops_go_on; triangle_turns = x.triangle_turns; nothing_turns_inside = x.nothing_turns_inside; loops_round = x.loops_round; comparisons_round = x.comparisons_round }
