use Rattle.affc_lines.proofs.ExampleProofs as lemma
use Rattle.affc_lines.proofs.examples.refusals.Goals as goal

pub returns : goal.returns
returns c = record { each_refusal_says = lemma.each_refusal_says }
