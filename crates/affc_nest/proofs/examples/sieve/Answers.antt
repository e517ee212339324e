use Rattle.affc_nest.proofs.ExampleProofs as example
use Rattle.affc_nest.proofs.examples.sieve.Goals as goal

pub returns : goal.returns
returns c = record { nest = example.sieve_nest; extents = example.sieve_extents; bounds = example.sieve_bounds }
