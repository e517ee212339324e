use Rattle.affc_life.proofs.ExampleProofs as example
use Rattle.affc_life.proofs.examples.parts.Goals as goal

pub returns : goal.returns
returns c = record { dimensions = example.dimensions_in_turn; rows = example.rows_in_turn; last = example.last_one_is_no_load; dead = example.none_of_the_dead }
