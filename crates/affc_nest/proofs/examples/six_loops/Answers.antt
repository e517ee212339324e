use Rattle.affc_nest.proofs.ExampleProofs as example
use Rattle.affc_nest.proofs.examples.six_loops.Goals as goal

pub returns : goal.returns
returns c = record { nest = example.six_loops_nest; extents = example.six_loops_extents; bounds = example.six_loops_bounds }
