use Rattle.affc_trace.proofs.ExampleProofs as x
use Rattle.affc_trace.proofs.examples.stuck.Goals as goal

pub returns : goal.returns
returns c = record { for_a_value = x.stuck_for_a_value; out_of_bounds = x.stuck_out_of_bounds }
