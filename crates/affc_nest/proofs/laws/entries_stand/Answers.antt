use Rattle.affc_nest.proofs.EntryLemmas as lemma
use Rattle.affc_nest.proofs.laws.entries_stand.Goals as goal

pub returns : goal.returns
returns c = record { law = lemma.entries_stand }
