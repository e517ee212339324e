use Rattle.affc_driver.proofs.Stuck as lemma
use Rattle.affc_driver.proofs.laws.unwritten_shows.Goals as goal

pub returns : goal.returns
returns c = record { law = lemma.unwritten_shows }
