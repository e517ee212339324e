use Rattle.affc_nest.proofs.ExampleProofs as example
use Rattle.affc_nest.proofs.examples.branches.Goals as goal

pub returns : goal.returns
returns c = record { places = example.places_of_branches; rows = example.rows_of_branches }
