use Rattle.affc_cli.proofs.ExampleProofs as lemma
use Rattle.affc_cli.proofs.examples.held.Goals as goal

pub returns : goal.returns
returns c = record { no_name_is_no_text = lemma.no_name_is_no_text; promised_of_what_was_held = lemma.promised_of_what_was_held }
