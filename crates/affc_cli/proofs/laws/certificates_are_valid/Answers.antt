use Rattle.affc_cli.proofs.LawProofs as lemma
use Rattle.affc_cli.proofs.laws.certificates_are_valid.Goals as goal

pub returns : goal.returns
returns c = record { law = lemma.certificates_are_valid }
