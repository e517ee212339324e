use Rattle.affc_rewrite.proofs.Arms.{for_rest, if_first, if_rest, block_rest}
use Rattle.affc_rewrite.proofs.calls.+walk.Goals as goal

pub stmt_calls-returns-else-has_call-2 : goal.stmt_calls-returns-else-has_call-2
stmt_calls-returns-else-has_call-2 t c =
    for_rest c.args.s.now c.in-For.iter c.in-For.low c.in-For.rel c.in-For.high c.in-For.body c.as_slice.result.now c.has_call.result c.has_call-else-has_call.result c.calls.result
    c.in-For.is c.as_slice.ensures c.if-has_call.false c.has_call.ensures c.if-has_call-2.false c.has_call-else-has_call.ensures c.calls.ensures

pub stmt_calls-returns-then-calls : goal.stmt_calls-returns-then-calls
stmt_calls-returns-then-calls t c =
    if_first c.args.s.now c.in-If.cond c.in-If.body c.in-If.other c.as_slice-else-cond_calls.result.now c.calls-else-cond_calls.result
    c.in-If.is c.as_slice-else-cond_calls.ensures c.if-calls.true c.calls-else-cond_calls.ensures

pub stmt_calls-returns-else-calls : goal.stmt_calls-returns-else-calls
stmt_calls-returns-else-calls t c =
    if_rest c.args.s.now c.in-If.cond c.in-If.body c.in-If.other c.as_slice-else-cond_calls.result.now c.as_slice-else-calls.result.now c.cond_calls.result c.calls-else-cond_calls.result c.calls-else-calls.result
    c.in-If.is c.as_slice-else-cond_calls.ensures c.as_slice-else-calls.ensures c.if-cond_calls.false c.cond_calls.ensures c.if-calls.false c.calls-else-cond_calls.ensures c.calls-else-calls.ensures

pub stmt_calls-returns-else-local_calls : goal.stmt_calls-returns-else-local_calls
stmt_calls-returns-else-local_calls t c =
    block_rest c.args.s.now c.in-Block.locals c.as_slice-in-Block.result.now c.in-Block.body c.as_slice-else-local_calls.result.now c.local_calls.result c.calls-else-local_calls.result
    c.in-Block.is c.as_slice-in-Block.ensures c.as_slice-else-local_calls.ensures c.if-local_calls.false c.local_calls.ensures c.calls-else-local_calls.ensures
