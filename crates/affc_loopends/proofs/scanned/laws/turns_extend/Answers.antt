use Rattle.affc_loopends.proofs.scanned.Tight as lemma
use Rattle.affc_loopends.proofs.scanned.laws.turns_extend.Goals as goal

pub returns : goal.returns
returns c = record { law = lemma.turns_extend }
