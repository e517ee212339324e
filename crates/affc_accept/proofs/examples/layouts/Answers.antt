use Rattle.affc_accept.proofs.ExampleProofs as x
use Rattle.affc_accept.proofs.examples.layouts.Goals as goal

pub returns : goal.returns
returns c = record { dead_stores_nothing = x.dead_stores_nothing; scalar_has_no_fold = x.scalar_has_no_fold }
