use Rattle.affc_folds.proofs.ExampleProofs as x
use Rattle.affc_folds.proofs.examples.folds.Goals as goal

pub returns : goal.returns
returns c = record { marks = x.second_mark_is_false; all = x.folds_of_blur }
