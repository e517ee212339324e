use Rattle.affc_driver.proofs.Complete as lemma
use Rattle.affc_driver.proofs.laws.flows_are_sound.Goals as goal

pub returns : goal.returns
returns c = record { law = lemma.flows_are_sound }
