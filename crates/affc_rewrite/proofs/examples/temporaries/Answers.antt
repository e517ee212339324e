use Rattle.affc_rewrite.proofs.ExampleProofs as x
use Rattle.affc_rewrite.proofs.examples.temporaries.Goals as goal

pub returns : goal.returns
returns c = record { by_their_folds = x.temporaries_by_their_folds; within_limits = x.folds_within_limits }
