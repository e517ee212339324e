use Rattle.affc_nest.proofs.AccessLemmas as lemma
use Rattle.affc_nest.proofs.laws.accesses_are_events.Goals as goal

pub returns : goal.returns
returns c = record { law = lemma.accesses_are_events }
