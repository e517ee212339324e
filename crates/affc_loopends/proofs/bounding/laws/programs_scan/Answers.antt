use Rattle.affc_loopends.proofs.bounding.Programs as lemma
use Rattle.affc_loopends.proofs.bounding.laws.programs_scan.Goals as goal

pub returns : goal.returns
returns c = record { law = lemma.programs_scan }
