use Rattle.affc_nest.proofs.AccessLemmas as lemma
use Rattle.affc_nest.proofs.laws.extents_are_extents.Goals as goal

pub returns : goal.returns
returns c = record { law = lemma.extents_are_extents }
