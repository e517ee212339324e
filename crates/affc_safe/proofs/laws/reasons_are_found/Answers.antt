use Rattle.affc_safe.proofs.Reasons as lemma
use Rattle.affc_safe.proofs.laws.reasons_are_found.Goals as goal

pub returns : goal.returns
returns c = record { law = lemma.reasons_are_found }
