use Rattle.affc_foldloops.proofs.ExampleProofs as x
use Rattle.affc_foldloops.proofs.examples.blur.Goals as goal

pub returns : goal.returns
returns c = record { folds = x.blur_folds; compiles = x.blur_compiles; is_replaced = x.blur_is_replaced }
