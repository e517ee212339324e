use Rattle.affc_cli.proofs.UnreadProofs as lemma
use Rattle.affc_cli.proofs.laws.unread_is_first.Goals as goal

pub returns : goal.returns
returns c = record { law = lemma.unread_is_first }
