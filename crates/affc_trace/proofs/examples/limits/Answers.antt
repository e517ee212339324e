use Rattle.affc_trace.proofs.ExampleProofs as x
use Rattle.affc_trace.proofs.examples.limits.Goals as goal

pub returns : goal.returns
returns c = record { twelve_components = x.twelve_components; slight_forms = x.slight_forms; slight_maps = x.slight_maps }
