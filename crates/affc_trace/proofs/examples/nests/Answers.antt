use Rattle.affc_trace.proofs.ExampleProofs as x
use Rattle.affc_trace.proofs.examples.nests.Goals as goal

pub returns : goal.returns
returns c = record { loops_are_counted = x.loops_are_counted; locals_are_seen = x.locals_are_seen }
