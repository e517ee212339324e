use Rattle.affc_lines.proofs.ExampleProofs as lemma
use Rattle.affc_lines.proofs.examples.sources.Goals as goal

pub returns : goal.returns
returns c = record { faults_of_sources = lemma.faults_of_sources; limits_of_sources = lemma.limits_of_sources }
