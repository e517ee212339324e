use Rattle.affc_basis.proofs.CostExamples as x
use Rattle.affc_basis.proofs.examples.costs.Goals as goal

pub returns : goal.returns
returns c = record { greatest = x.five_and_three_are_greatest; cost = x.cost_of_one_more }
