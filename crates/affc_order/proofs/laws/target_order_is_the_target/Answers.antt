use Rattle.affc_order.proofs.OrderLemmas as lemma
use Rattle.affc_order.proofs.laws.target_order_is_the_target.Goals as goal

pub returns : goal.returns
returns c = record { law = lemma.target_order_is_the_target }
