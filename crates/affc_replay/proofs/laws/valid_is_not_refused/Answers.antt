use Rattle.affc_replay.proofs.Valid as lemma
use Rattle.affc_replay.proofs.laws.valid_is_not_refused.Goals as goal

pub returns : goal.returns
returns c = record { law = lemma.valid_is_not_refused }
