use Rattle.affc_cli.proofs.ExampleProofs as lemma
use Rattle.affc_cli.proofs.examples.sums.Goals as goal

pub returns : goal.returns
returns c = record { costs_by_name = lemma.costs_by_name; eight_stages = lemma.eight_stages }
