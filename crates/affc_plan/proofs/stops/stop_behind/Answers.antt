use Rattle.affc_plan.proofs.StopLaws.{product_found, product_none}
use Rattle.affc_plan.proofs.stops.stop_behind.Goals as goal

pub returns-in-Some : goal.returns-in-Some
returns-in-Some c = product_found c.args.symbols.now c.args.to c.in_ok-at.field-0 c.in_ok-at.ensures c.in-Some.at c.in-Some.is

pub returns-in-None : goal.returns-in-None
returns-in-None c = product_none c.args.symbols.now c.args.to c.in_ok-at.field-0 c.in_ok-at.ensures c.requires c.in-None.is
