use Rattle.affc_nest.proofs.ExampleProofs as example
use Rattle.affc_nest.proofs.examples.one_point.Goals as goal

pub returns : goal.returns
returns c = record { nest = example.one_point_nest; questions = example.one_point_asks_nothing }
