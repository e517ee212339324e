use Rattle.affc_io.proofs.ExampleProofs as lemma
use Rattle.affc_io.proofs.examples.held.Goals as goal

pub returns : goal.returns
returns c = record {
  all_bytes_are_held = lemma.all_bytes_are_held;
  missing_is_not_held = lemma.missing_is_not_held;
  long_is_past_the_limit = lemma.long_is_past_the_limit;
  a_front_is_left = lemma.a_front_is_left;
}
