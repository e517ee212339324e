use Rattle.std.proofs.Common.{arith}
use Rattle.affc_interp.proofs.Execs.{next_assigns, nodes_within}
use Rattle.affc_interp.proofs.machine.+assigns_of_all.Goals as goal

pub assigns_of_all-assign_count-count-requires : goal.assigns_of_all-assign_count-count-requires
assigns_of_all-assign_count-count-requires t c =
    let n = nodes_within c.args.body.now c.loop-s.s-index c.s-item.result c.loop-s-test.true c.s-item.is in
    let a = next_assigns c.args.body.now c.loop-s.s-index c.s-item.result c.loop-s-test.true c.s-item.is in
    let i = c.loop-s.invariant in
    (omega (arith, n), omega (arith, a, i))
