use Rattle.std.proofs.Common.{arith}
use Rattle.affc_ast.specs.Index.{nodes_of_compare}
use Rattle.affc_interp.proofs.Lists.{first_sum}
use Rattle.affc_interp.proofs.index.+compare_sum.Goals as goal

pub compare_nodes-requires : goal.compare_nodes-requires
compare_nodes-requires t c =
    let s = first_sum nodes_of_compare c.args.conds.now c.c-item.result c.in-len1-up.len_at_least c.c-item.is in
    omega (arith, s)

pub overflow_add-result : goal.overflow_add-result
overflow_add-result t c =
    let s = first_sum nodes_of_compare c.args.conds.now c.c-item.result c.in-len1-up.len_at_least c.c-item.is in
    omega (arith, s)

pub compare_sum-requires : goal.compare_sum-requires
compare_sum-requires t c =
    let s = first_sum nodes_of_compare c.args.conds.now c.c-item.result c.in-len1-up.len_at_least c.c-item.is in
    omega (arith, s)

pub returns-in-len1-up : goal.returns-in-len1-up
returns-in-len1-up t c =
    let s = first_sum nodes_of_compare c.args.conds.now c.c-item.result c.in-len1-up.len_at_least c.c-item.is in
    omega (arith, s)
