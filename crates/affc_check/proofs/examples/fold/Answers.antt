use Rattle.affc_check.proofs.ExampleProofs as x
use Rattle.affc_check.proofs.examples.fold.Goals as goal

pub returns : goal.returns
returns c = record { marks_in_order = x.marks_in_order; distances_between = x.distances_between; pair_is_turned = x.pair_is_turned; nothing_is_shown = x.nothing_is_shown; pair_in_order = x.pair_in_order; moduli_are_marked = x.moduli_are_marked }
