use Rattle.affc_folds.proofs.ExampleProofs as x
use Rattle.affc_folds.proofs.examples.bases.Goals as goal

pub returns : goal.returns
returns c = record { law = x.bases_of_arrays }
