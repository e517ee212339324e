use Rattle.affc_cli.proofs.LawProofs as lemma
use Rattle.affc_cli.proofs.laws.outputs_are_kept.Goals as goal

pub returns : goal.returns
returns c = record { law = lemma.outputs_are_kept }
