use Rattle.affc_check.proofs.Gives as lemma
use Rattle.affc_check.proofs.laws.valid_gives.Goals as goal

pub returns : goal.returns
returns c = record { law = lemma.valid_gives }
