use Rattle.affc_basis.proofs.FoldPlaces.{compiles_folded}
use Rattle.affc_basis.proofs.laws.compiles_folded.Goals as goal

pub returns : goal.returns
returns g c = record { law = compiles_folded g.C.ArrayConflicts.pairs }
