use Rattle.affc_life.proofs.ExampleProofs as example
use Rattle.affc_life.proofs.examples.straight.Goals as goal

pub returns : goal.returns
returns c = record { both_orders = example.both_orders; never_loaded = example.never_loaded; arrays = example.across_arrays; orders = example.across_orders }
