use Rattle.affc_driver.proofs.Stuck as lemma
use Rattle.affc_driver.proofs.laws.faults_show.Goals as goal

pub returns : goal.returns
returns c = record { law = lemma.faults_show }
