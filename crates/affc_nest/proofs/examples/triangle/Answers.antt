use Rattle.affc_nest.proofs.ExampleProofs as example
use Rattle.affc_nest.proofs.examples.triangle.Goals as goal

pub returns : goal.returns
returns c = record { nest = example.triangle_nest; extents = example.triangle_extents; bounds = example.triangle_bounds }
