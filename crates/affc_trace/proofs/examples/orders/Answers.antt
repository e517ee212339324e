use Rattle.affc_trace.proofs.ExampleProofs as x
use Rattle.affc_trace.proofs.examples.orders.Goals as goal

pub returns : goal.returns
returns c = record { number_decides = x.number_decides_ties; tie_is_illegal = x.tie_is_illegal; backwards_is_illegal = x.backwards_is_illegal }
