use Rattle.affc_basis.proofs.FoldPlaces.{admissible_folds_separate}
use Rattle.affc_basis.proofs.laws.admissible_folds_separate.Goals as goal

pub returns : goal.returns
returns g c = record { law = admissible_folds_separate g.C.ArrayConflicts.pairs }
