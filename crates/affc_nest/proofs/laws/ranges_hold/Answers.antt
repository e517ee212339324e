use Rattle.affc_nest.proofs.EntryLemmas as lemma
use Rattle.affc_nest.proofs.laws.ranges_hold.Goals as goal

pub returns : goal.returns
returns c = record { law = lemma.ranges_hold_iterators }
