use Rattle.affc_loopends.proofs.Extended as lemma
use Rattle.affc_loopends.proofs.laws.bounds_hold.Goals as goal

pub returns : goal.returns
returns c = record { law = lemma.ends_hold }
