use Rattle.affc_cli.proofs.LeftProofs as lemma
use Rattle.affc_cli.proofs.laws.other_files_stay.Goals as goal

pub returns : goal.returns
returns c = record { law = lemma.other_files_stay }
