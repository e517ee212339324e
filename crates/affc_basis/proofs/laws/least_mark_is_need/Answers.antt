use Rattle.affc_basis.proofs.Marks.{least_mark_is_need}
use Rattle.affc_basis.proofs.laws.least_mark_is_need.Goals as goal

pub returns : goal.returns
returns g c = record { law = least_mark_is_need g.C.Conflicts.in_context g.C.Conflicts.pairs }
