use Rattle.affc_floor.proofs.Orders.{order_is_target}
use Rattle.affc_floor.proofs.laws.order_is_target.Goals as goal

pub returns : goal.returns
returns c = record { law = order_is_target }
