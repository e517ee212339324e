use Rattle.affc_check.proofs.BlurFold as x
use Rattle.affc_check.proofs.examples.blur_fold.Goals as goal

pub returns : goal.returns
returns c = record { folds_are_last = x.folds_are_last; count = x.count_of_the_fold; two_are_too_few = x.two_are_too_few }
