use Rattle.affc_weigh.proofs.StoredCosts.{less_costs_no_more}
use Rattle.affc_weigh.proofs.laws.less_costs_no_more.Goals as goal

pub returns : goal.returns
returns g c = record { law = less_costs_no_more g.C.Costing.in_context g.C.Costing.answers }
