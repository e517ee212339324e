use Rattle.affc_basis.proofs.Uniques.{greatest_value_is_unique, cost_is_unique}
use Rattle.affc_basis.proofs.laws.greatest_value_is_unique.Goals as goal

pub returns : goal.returns
returns g c = record { law = greatest_value_is_unique g.C.Conflicts.in_context g.C.Conflicts.pairs; cost = cost_is_unique g.C.Conflicts.in_context g.C.Conflicts.pairs }
