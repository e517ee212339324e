use Rattle.affc_folds.proofs.SystemExamples as x
use Rattle.affc_folds.proofs.examples.again.Goals as goal

pub returns : goal.returns
returns c = record { law = x.first_or_found }
