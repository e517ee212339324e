use Rattle.affc_nest.proofs.EntryLemmas as lemma
use Rattle.affc_nest.proofs.laws.none_where_not_alive.Goals as goal

pub returns : goal.returns
returns c = record { law = lemma.none_where_not_alive }
