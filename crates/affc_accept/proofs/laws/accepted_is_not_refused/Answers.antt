use Rattle.affc_accept.proofs.Unique as lemma
use Rattle.affc_accept.proofs.laws.accepted_is_not_refused.Goals as goal

pub returns : goal.returns
returns c = record { law = lemma.accepted_is_not_refused }
