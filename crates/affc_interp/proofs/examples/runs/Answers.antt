use Rattle.affc_interp.proofs.ExampleProofs as x
use Rattle.affc_interp.proofs.examples.runs.Goals as goal

pub returns : goal.returns
returns c = record { steps_are_enough = x.steps_are_enough; floors_and_remainders = x.floors_and_remainders }
