use Rattle.affc_cli.proofs.ExampleProofs as lemma
use Rattle.affc_cli.proofs.examples.ends.Goals as goal

pub returns : goal.returns
returns c = record {
  who_ends_with_what = lemma.who_ends_with_what;
  files_in_order = lemma.files_in_order;
  reads_stop_at_the_first = lemma.reads_stop_at_the_first;
  refusals_are_told = lemma.refusals_are_told;
  unread_is_told_behind = lemma.unread_is_told_behind;
}
