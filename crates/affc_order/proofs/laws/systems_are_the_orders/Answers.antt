use Rattle.affc_order.proofs.OrderLemmas as lemma
use Rattle.affc_order.proofs.laws.systems_are_the_orders.Goals as goal

pub returns : goal.returns
returns c = record { law = lemma.systems_are_the_orders }
