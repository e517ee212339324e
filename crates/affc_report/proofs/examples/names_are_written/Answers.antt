use Rattle.affc_report.proofs.ExampleProofs as lemma
use Rattle.affc_report.proofs.examples.names_are_written.Goals as goal

pub returns : goal.returns
returns c = lemma.names_are_written
