use Rattle.affc_basis.proofs.FoldPlaces.{folds_keep_parameters}
use Rattle.affc_basis.proofs.laws.folds_keep_parameters.Goals as goal

pub returns : goal.returns
returns c = record { law = folds_keep_parameters }
