use Rattle.affc_safe.proofs.Accesses as lemma
use Rattle.affc_safe.proofs.laws.without_temporaries_safe.Goals as goal

pub returns : goal.returns
returns c = record { law = lemma.without_temporaries_safe }
