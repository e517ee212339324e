use Rattle.affc_life.proofs.ExampleProofs as example
use Rattle.affc_life.proofs.examples.chain.Goals as goal

pub returns : goal.returns
returns c = record { clashes = example.chain_clashes; own_store = example.own_store_is_none; halved = example.halved_clashes }
