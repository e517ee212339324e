use Rattle.affc_cli.proofs.RunProofs as lemma
use Rattle.affc_cli.proofs.laws.run_ends.Goals as goal

pub returns : goal.returns
returns c = record { law = lemma.run_ends }
