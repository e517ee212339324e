use Rattle.affc_check.proofs.Read as lemma
use Rattle.affc_check.proofs.laws.failing_is_not_valid.Goals as goal

pub returns : goal.returns
returns c = record { law = lemma.failing_is_not_valid }
