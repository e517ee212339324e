use Rattle.affc_loopprint.proofs.WellNamedLoops as lemma
use Rattle.affc_loopprint.proofs.laws.spare_well_named.Goals as goal

pub returns : goal.returns
returns c = record { law = lemma.spare_well_named }
