use Rattle.affc_order.proofs.OrderLemmas as lemma
use Rattle.affc_order.proofs.laws.schedules_are_asked.Goals as goal

pub returns : goal.returns
returns c = record { law = lemma.schedules_are_asked }
