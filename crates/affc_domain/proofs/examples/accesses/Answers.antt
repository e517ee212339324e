use Rattle.affc_domain.proofs.ExampleProofs as x
use Rattle.affc_domain.proofs.examples.accesses.Goals as goal

pub returns : goal.returns
returns c = record { accesses_in_order = x.accesses_in_order; arrays_in_order = x.arrays_in_order }
