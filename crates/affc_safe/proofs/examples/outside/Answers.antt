use Rattle.affc_safe.proofs.ExampleProofs as x
use Rattle.affc_safe.proofs.examples.outside.Goals as goal

pub returns : goal.returns
returns c = record { store = x.store_lies_outside; load = x.load_lies_outside }
