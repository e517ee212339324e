use Rattle.affc_cli.proofs.LawProofs as lemma
use Rattle.affc_cli.proofs.laws.stores_follow.Goals as goal

pub returns : goal.returns
returns c = record { law = lemma.stores_follow }
