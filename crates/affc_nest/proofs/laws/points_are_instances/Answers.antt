use Rattle.affc_nest.proofs.EntryLemmas as lemma
use Rattle.affc_nest.proofs.laws.points_are_instances.Goals as goal

pub returns : goal.returns
returns c = record { law = lemma.points_are_instances }
