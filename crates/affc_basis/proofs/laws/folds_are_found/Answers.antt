use Rattle.affc_basis.proofs.FoldsFound.{folds_are_found}
use Rattle.affc_basis.proofs.laws.folds_are_found.Goals as goal

pub returns : goal.returns
returns c = record { law = folds_are_found }
