use Rattle.affc_safe.proofs.EndedSafe as lemma
use Rattle.affc_safe.proofs.laws.unwritten_instance.Goals as goal

pub returns : goal.returns
returns c = record { law = lemma.unwritten_instance }
