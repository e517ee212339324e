use Rattle.affc_basis.proofs.Marks.{obeying_is_enough}
use Rattle.affc_basis.proofs.laws.obeying_is_enough.Goals as goal

pub returns : goal.returns
returns g c = record { law = obeying_is_enough g.C.Conflicts.in_context g.C.Conflicts.pairs }
