use Rattle.std.proofs.Common.{arith}
use Rattle.affc_ast.specs.Index.{nodes_of_ix}
use Rattle.affc_interp.proofs.Lists.{next_sum}
use Rattle.affc_interp.proofs.machine.Machine.declare.Goals as goal

pub eval-requires : goal.eval-requires
eval-requires c =
    let s = next_sum (λ l. nodes_of_ix l.value) c.args.locals.now c.loop-l.l-index c.l-item.result (omega arith) c.l-item.is in
    let n = c.loop-l.invariant.nodes in
    omega (arith, s, n)

pub node_count-here-requires : goal.node_count-here-requires
node_count-here-requires c =
    let s = next_sum (λ l. nodes_of_ix l.value) c.args.locals.now c.loop-l.l-index c.l-item.result (omega arith) c.l-item.is in
    let n = c.loop-l.invariant.nodes in
    omega (arith, s, n)

pub overflow_add-here : goal.overflow_add-here
overflow_add-here c =
    let s = next_sum (λ l. nodes_of_ix l.value) c.args.locals.now c.loop-l.l-index c.l-item.result (omega arith) c.l-item.is in
    let n = c.loop-l.invariant.nodes in
    omega (arith, s, n)
