use Rattle.affc_cli.proofs.LeftProofs as lemma
use Rattle.affc_cli.proofs.laws.words_are_told.Goals as goal

pub returns : goal.returns
returns c = record { law = lemma.words_are_told }
