use Rattle.affc_accept.proofs.Shows as lemma
use Rattle.affc_accept.proofs.laws.accepted_shows.Goals as goal

pub returns : goal.returns
returns c = record { law = lemma.accepted_shows }
