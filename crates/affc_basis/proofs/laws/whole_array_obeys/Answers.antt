use Rattle.affc_basis.proofs.Whole.{whole_array_obeys}
use Rattle.affc_basis.proofs.laws.whole_array_obeys.Goals as goal

pub returns : goal.returns
returns g c = record { law = whole_array_obeys g.C.Conflicts.pairs }
