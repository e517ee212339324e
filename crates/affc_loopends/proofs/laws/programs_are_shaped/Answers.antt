use Rattle.affc_loopends.proofs.Instances as lemma
use Rattle.affc_loopends.proofs.laws.programs_are_shaped.Goals as goal

pub returns : goal.returns
returns c = record { law = lemma.program_is_shaped }
