use Rattle.affc_order.proofs.OrderLemmas as lemma
use Rattle.affc_order.proofs.laws.source_order_is_the_trace.Goals as goal

pub returns : goal.returns
returns c = record { law = lemma.source_order_is_the_trace }
