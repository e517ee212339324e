use Rattle.affc_loopprint.proofs.WellNamedLoops as lemma
use Rattle.affc_loopprint.proofs.laws.between_well_named.Goals as goal

pub returns : goal.returns
returns c = record { law = lemma.between_well_named }
