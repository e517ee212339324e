use Rattle.affc_ast.proofs.CounterProofs as x
use Rattle.affc_ast.proofs.examples.not_following.Goals as goal

pub returns : goal.returns
returns c = record { orders_differ = x.orders_differ; values_differ = x.values_differ; places_differ = x.places_differ; own_elements_differ = x.own_elements_differ; outputs_differ = x.outputs_differ }
