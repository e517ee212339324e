use Rattle.affc_system.proofs.ExampleProofs as x
use Rattle.affc_system.proofs.examples.neighbours.Goals as goal

pub returns : goal.returns
returns c = record {
  rows_are_met_below_n = x.rows_are_met_below_n;
  two_and_three = x.two_and_three;
  the_other_way_round = x.the_other_way_round;
  three_and_four = x.three_and_four;
  none_is_its_own = x.none_is_its_own;
}
