use Rattle.affc_loopends.proofs.Statements as lemma
use Rattle.affc_loopends.proofs.laws.bounds_are_ends.Goals as goal

pub returns : goal.returns
returns c = record { law = lemma.bounds_are_ends }
