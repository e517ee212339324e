use Rattle.affc_safe.proofs.EndedSafe as lemma
use Rattle.affc_safe.proofs.laws.no_temporaries_are_written.Goals as goal

pub returns : goal.returns
returns c = record { law = lemma.no_temporaries_are_written }
