use Rattle.affc_life.proofs.ExampleProofs as example
use Rattle.affc_life.proofs.examples.lifetimes.Goals as goal

pub returns : goal.returns
returns c = record { last_load = example.lives_to_last_load; own_store = example.own_store_alone }
