use Rattle.affc_cli.proofs.LawProofs as lemma
use Rattle.affc_cli.proofs.laws.outputs_are_kept_as_read.Goals as goal

pub returns : goal.returns
returns c = record { law = lemma.outputs_are_kept_as_read }
