use Rattle.std.proofs.Common.{arith}
use Rattle.affc_ast.specs.Index.{nodes_of_ix}
use Rattle.affc_interp.proofs.Lists.{first_sum}
use Rattle.affc_interp.proofs.index.+node_sum.Goals as goal

pub overflow_add-result : goal.overflow_add-result
overflow_add-result t c =
    let s = first_sum nodes_of_ix c.args.es.now c.e-item.result c.in-len1-up.len_at_least c.e-item.is in
    omega (arith, s)

pub node_sum-requires : goal.node_sum-requires
node_sum-requires t c =
    let s = first_sum nodes_of_ix c.args.es.now c.e-item.result c.in-len1-up.len_at_least c.e-item.is in
    omega (arith, s)

pub node_count-requires : goal.node_count-requires
node_count-requires t c =
    let s = first_sum nodes_of_ix c.args.es.now c.e-item.result c.in-len1-up.len_at_least c.e-item.is in
    omega (arith, s)

pub returns-in-len1-up : goal.returns-in-len1-up
returns-in-len1-up t c =
    let s = first_sum nodes_of_ix c.args.es.now c.e-item.result c.in-len1-up.len_at_least c.e-item.is in
    omega (arith, s)
