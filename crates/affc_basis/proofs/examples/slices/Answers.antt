use Rattle.affc_basis.proofs.ExampleProofs as x
use Rattle.affc_basis.proofs.examples.slices.Goals as goal

pub returns : goal.returns
returns c = record { are_successive = x.slices_are_successive }
