use Rattle.affc_basis.proofs.FoldPlaces.{obeying_fold_separates}
use Rattle.affc_basis.proofs.laws.obeying_fold_separates.Goals as goal

pub returns : goal.returns
returns g c = record { law = obeying_fold_separates g.C.Conflicts.pairs }
