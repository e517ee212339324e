use Rattle.affc_basis.proofs.FoldPlaces.{folded_premises_compile}
use Rattle.affc_basis.proofs.laws.folded_premises_compile.Goals as goal

pub returns : goal.returns
returns g c = record { law = folded_premises_compile g.C.ArrayConflicts.pairs }
