use Rattle.std.proofs.Common.{arith}
use Rattle.affc_ast.specs.Index.{nodes_of_ix}
use Rattle.affc_interp.proofs.Lists.{first_sum}
use Rattle.affc_interp.proofs.memory.+extents_from.Goals as goal

pub overflow_add-node : goal.overflow_add-node
overflow_add-node t c =
    let s = first_sum nodes_of_ix c.args.es.now c.e-item.result c.in-len1-up.len_at_least c.e-item.is in
    omega (arith, s)

pub extents_from-requires : goal.extents_from-requires
extents_from-requires t c =
    let s = first_sum nodes_of_ix c.args.es.now c.e-item.result c.in-len1-up.len_at_least c.e-item.is in
    omega (arith, s)

pub node_count-requires : goal.node_count-requires
node_count-requires t c =
    let s = first_sum nodes_of_ix c.args.es.now c.e-item.result c.in-len1-up.len_at_least c.e-item.is in
    omega (arith, s)

pub eval-requires : goal.eval-requires
eval-requires t c =
    let s = first_sum nodes_of_ix c.args.es.now c.e-item.result c.in-len1-up.len_at_least c.e-item.is in
    omega (arith, s)
