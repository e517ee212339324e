use Rattle.affc_eliminate.proofs.project.Leasts.{reduced_next}
use Rattle.affc_eliminate.proofs.project.least.reduced.Goals as goal

pub loop-kept-preserved : goal.loop-kept-preserved
loop-kept-preserved c =
    reduced_next c.args.keep c.args.live.now c.loop-kept.kept-index c.kept-item.result c.in_ok-row.row c.loop-kept.rows.items c.in_ok-next.next.items c.loop-kept-test.true c.kept-item.is
    c.in_ok-row.ensures.some c.in_ok-row.ensures.none c.in_ok-next.ensures.some c.in_ok-next.ensures.none c.loop-kept.invariant
