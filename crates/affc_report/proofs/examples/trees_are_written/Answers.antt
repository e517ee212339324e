use Rattle.affc_report.proofs.ExampleProofs as lemma
use Rattle.affc_report.proofs.examples.trees_are_written.Goals as goal

pub returns : goal.returns
returns c = lemma.trees_are_written
