use Rattle.std.proofs.Common.{sym, subst}
use Rattle.affc_order.specs.Placed.{IsTimed}
use Rattle.affc_order.proofs.DepthLemmas.{timed}
use Rattle.affc_order.proofs.order.target_order.Goals as goal

pub time_order-requires-clause-timed : goal.time_order-requires-clause-timed
time_order-requires-clause-timed c =
    subst (λ ms. IsTimed c.args.nest.now c.in-Time.length ms c.args.a.now.part) (sym c.as_slice.ensures)
    (timed c.args.nest.now c.args.schedule.now c.requires.asked c.in-Time.length c.in-Time.maps c.in-Time.is c.args.a.now.part c.requires.first.part)

pub time_order-requires-clause-timed_too : goal.time_order-requires-clause-timed_too
time_order-requires-clause-timed_too c =
    subst (λ ms. IsTimed c.args.nest.now c.in-Time.length ms c.args.b.now.part) (sym c.as_slice.ensures)
    (timed c.args.nest.now c.args.schedule.now c.requires.asked c.in-Time.length c.in-Time.maps c.in-Time.is c.args.b.now.part c.requires.second.part)
