use Rattle.affc_floor.proofs.ExampleProofs.{two_values_of_one, loaded_before_stored}
use Rattle.affc_floor.proofs.examples.illegal.Goals as goal

pub returns : goal.returns
returns c = record { two_values = two_values_of_one; before_stored = loaded_before_stored }
