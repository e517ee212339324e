use Rattle.affc_replay.proofs.Valid.{valid_is_not_refused}
use Rattle.affc_cli.proofs.LawProofs as lemma
use Rattle.affc_cli.proofs.laws.replay_ends.Goals as goal

pub returns : goal.returns
returns c = record { law = lemma.replay_ends valid_is_not_refused }
