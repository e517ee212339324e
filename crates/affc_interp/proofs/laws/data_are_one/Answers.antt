use Rattle.affc_interp.proofs.OneData as lemma
use Rattle.affc_interp.proofs.laws.data_are_one.Goals as goal

pub returns : goal.returns
returns c = lemma.data_are_one
