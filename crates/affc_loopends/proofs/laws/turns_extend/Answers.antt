use Rattle.affc_loopends.proofs.Extended as lemma
use Rattle.affc_loopends.proofs.laws.turns_extend.Goals as goal

pub returns : goal.returns
returns c = record { law = lemma.turns_extend }
