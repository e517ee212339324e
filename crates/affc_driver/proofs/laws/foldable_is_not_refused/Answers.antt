use Rattle.affc_driver.proofs.Complete as lemma
use Rattle.affc_driver.proofs.laws.foldable_is_not_refused.Goals as goal

pub returns : goal.returns
returns c = record { law = lemma.foldable_is_not_refused }
