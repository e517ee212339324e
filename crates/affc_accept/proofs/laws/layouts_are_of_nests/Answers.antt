use Rattle.affc_accept.proofs.Listed as lemma
use Rattle.affc_accept.proofs.laws.layouts_are_of_nests.Goals as goal

pub returns : goal.returns
returns c = record { law = lemma.layouts_are_of_nests }
