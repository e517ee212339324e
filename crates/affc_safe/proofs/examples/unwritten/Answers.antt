use Rattle.affc_safe.proofs.ExampleProofs as x
use Rattle.affc_safe.proofs.examples.unwritten.Goals as goal

pub returns : goal.returns
returns c = record { late = x.store_comes_late }
