use Rattle.affc_driver.proofs.Complete as lemma
use Rattle.affc_driver.proofs.laws.illegal_shows.Goals as goal

pub returns : goal.returns
returns c = record { law = lemma.illegal_shows }
