use Rattle.affc_weigh.proofs.Cheapest.{the_choice}
use Rattle.affc_weigh.proofs.choosing.choose.Goals as goal

pub returns-clause-some : goal.returns-clause-some
returns-clause-some c =
    the_choice c.args.found c.as_slice.result.now c.as_slice-2.result.now c.in-Some.at c.in-Some-remove.one c.in_ok-prices.prices c.as_slice.ensures c.as_slice-2.ensures c.in-Some.ensures.some c.in-Some-remove.ensures.item c.in_ok-prices.ensures
