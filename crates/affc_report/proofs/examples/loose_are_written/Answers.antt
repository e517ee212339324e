use Rattle.affc_report.proofs.ExampleProofs as lemma
use Rattle.affc_report.proofs.examples.loose_are_written.Goals as goal

pub returns : goal.returns
returns c = lemma.loose_are_written
