use Rattle.affc_accept.proofs.ExampleProofs as x
use Rattle.affc_accept.proofs.examples.columns.Goals as goal

pub returns : goal.returns
returns c = record { iterators_come_first = x.iterators_come_first }
