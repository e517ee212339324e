use Rattle.affc_trace.proofs.ExampleProofs as x
use Rattle.affc_trace.proofs.examples.scalar.Goals as goal

pub returns : goal.returns
returns c = record { one_element = x.scalar_has_one_element }
