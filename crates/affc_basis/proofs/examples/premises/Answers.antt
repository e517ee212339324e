use Rattle.affc_basis.proofs.PremiseExamples as x
use Rattle.affc_basis.proofs.examples.premises.Goals as goal

pub returns : goal.returns
returns c = record { folds = x.folds_of_the_blur; lists = x.lists_of_folds; lies_within = x.blur_lies_within }
