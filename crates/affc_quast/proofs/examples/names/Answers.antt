use Rattle.affc_quast.proofs.ExampleProofs as lemma
use Rattle.affc_quast.proofs.examples.names.Goals as goal

pub returns : goal.returns
returns c = record {
  tests_are_met_at_zero = lemma.tests_are_met_at_zero;
  quotients_round_down = lemma.quotients_round_down;
  ways_are_counted = lemma.ways_are_counted;
  trees_in_order = lemma.trees_in_order;
}
