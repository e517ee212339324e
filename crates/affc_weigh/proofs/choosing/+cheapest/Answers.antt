use Rattle.affc_weigh.proofs.Cheapest.{after_none, after_some}
use Rattle.affc_weigh.proofs.choosing.+cheapest.Goals as goal

pub returns-in-None-clause-some : goal.returns-in-None-clause-some
returns-in-None-clause-some t c =
    after_none c.args.found.now c.first-item.result c.in-len1-up.len_at_least c.first-item.is c.in-None.is c.cheapest.result c.behind.result c.behind.ensures.none c.behind.ensures.some c.cheapest.ensures.some

pub returns-in-Some-clause-some : goal.returns-in-Some-clause-some
returns-in-Some-clause-some t c =
    after_some c.args.found.now c.first-item.result c.in-Some.first c.in-len1-up.len_at_least c.first-item.is c.in-Some.is c.cheapest-in-Some.result c.cheaper.result c.cheaper.ensures.none c.cheaper.ensures.behind c.cheaper.ensures.before
    c.cheapest-in-Some.ensures.none c.cheapest-in-Some.ensures.some
