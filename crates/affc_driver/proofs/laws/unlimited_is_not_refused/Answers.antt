use Rattle.affc_driver.proofs.Complete as lemma
use Rattle.affc_driver.proofs.laws.unlimited_is_not_refused.Goals as goal

pub returns : goal.returns
returns c = record { law = lemma.unlimited_is_not_refused }
