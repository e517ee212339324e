use Rattle.affc_trace.proofs.ExampleProofs as x
use Rattle.affc_trace.proofs.examples.ties.Goals as goal

pub returns : goal.returns
returns c = record { first_component_decides = x.first_component_decides; stay_as_they_stood = x.ties_stay_as_they_stood; keep_instances = x.orders_keep_instances }
