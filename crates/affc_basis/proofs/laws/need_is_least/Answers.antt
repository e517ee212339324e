use Rattle.affc_basis.proofs.Marks.{need_is_least}
use Rattle.affc_basis.proofs.laws.need_is_least.Goals as goal

pub returns : goal.returns
returns g c = record { law = need_is_least g.C.Conflicts.in_context g.C.Conflicts.pairs }
