use Rattle.affc_loopends.proofs.bounding.Projects as lemma
use Rattle.affc_loopends.proofs.bounding.laws.systems_project.Goals as goal

pub returns : goal.returns
returns c = record { law = lemma.systems_project }
