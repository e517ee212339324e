use Rattle.affc_life.proofs.ExampleProofs as example
use Rattle.affc_life.proofs.examples.depths.Goals as goal

pub returns : goal.returns
returns c = record { law = example.depths_of_trees }
