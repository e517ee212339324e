use Rattle.std.proofs.Common.{refl}
use Rattle.std.proofs.lemmas.Result.{MatchResult-weaker}
use Rattle.affc_lines.proofs.Iterators.{tested, denied_there, behind_both, blocked, behind_block, outermost, further_in, behind_loop, found_here}
use Rattle.affc_lines.proofs.meaning.+iterators.Goals as goal

pub iterator_among-returns-in-Ok : goal.iterator_among-returns-in-Ok
iterator_among-returns-in-Ok t c =
    found_here c.args.stmts.now c.loop-stmt.stmt-index c.stmt-item.result c.args.left c.loop-stmt.rest c.args.loop_number c.in-Ok.name.now
    c.loop-stmt-test.true c.stmt-item.is c.loop-stmt.invariant c.in-Ok.ensures

pub iterator_in-returns-in-Err : goal.iterator_in-returns-in-Err
iterator_in-returns-in-Err t c =
    behind_loop c.args.stmt.now c.in-For.iter c.in-For.low c.in-For.rel c.in-For.high c.in-For.body c.as_slice.result.now c.in-For.is c.as_slice.ensures
    c.args.left c.args.loop_number c.in-Err.rest c.in-Err.ensures

pub iterator_in-returns-in-Ok : goal.iterator_in-returns-in-Ok
iterator_in-returns-in-Ok t c =
    outermost c.args.stmt.now c.in-For.iter c.in-For.low c.in-For.rel c.in-For.high c.in-For.body c.as_slice.result.now c.in-For.is c.as_slice.ensures
    c.args.left c.args.loop_number c.as_str.result.now c.in-Ok.ensures.0 c.if-loop_number-eq0.true c.as_str.ensures

pub iterator_in-returns-in-Ok-2 : goal.iterator_in-returns-in-Ok-2
iterator_in-returns-in-Ok-2 t c =
    further_in c.args.stmt.now c.in-For.iter c.in-For.low c.in-For.rel c.in-For.high c.in-For.body c.as_slice.result.now c.in-For.is c.as_slice.ensures
    c.args.left c.args.loop_number c.in-Ok.field-0.now c.saturating_sub-inside.result c.if-loop_number-eq0.false c.saturating_sub-inside.ensures c.in-Ok.ensures

pub iterator_in-returns-in-Ok-iterator_among : goal.iterator_in-returns-in-Ok-iterator_among
iterator_in-returns-in-Ok-iterator_among t c =
    tested c.args.stmt.now c.in-If.cond c.in-If.body c.as_slice-in-If.result.now c.in-If.other c.in-If.other c.in-If.is c.as_slice-in-If.ensures refl
    c.args.left c.args.loop_number c.in-Ok-iterator_among.name.now c.in-Ok-iterator_among.ensures

pub iterator_in-returns-in-Err-iterator_among : goal.iterator_in-returns-in-Err-iterator_among
iterator_in-returns-in-Err-iterator_among t c =
    MatchResult-weaker c.iterator_among-in-Err-iterator_among.result c.iterator_among-in-Err-iterator_among.ensures
    (λ name h. denied_there c.args.stmt.now c.in-If.cond c.in-If.body c.as_slice-in-If.result.now c.in-If.other c.as_slice-in-Err-iterator_among.result.now c.in-If.is c.as_slice-in-If.ensures c.as_slice-in-Err-iterator_among.ensures
    c.args.left c.in-Err-iterator_among.rest c.args.loop_number name.now c.in-Err-iterator_among.ensures h)
    (λ next h. behind_both c.args.stmt.now c.in-If.cond c.in-If.body c.as_slice-in-If.result.now c.in-If.other c.as_slice-in-Err-iterator_among.result.now c.in-If.is c.as_slice-in-If.ensures c.as_slice-in-Err-iterator_among.ensures
    c.args.left c.in-Err-iterator_among.rest next c.in-Err-iterator_among.ensures h)

pub iterator_in-returns-in-Block : goal.iterator_in-returns-in-Block
iterator_in-returns-in-Block t c =
    MatchResult-weaker c.iterator_among-in-Block.result c.iterator_among-in-Block.ensures
    (λ name h. blocked c.args.stmt.now c.in-Block.locals c.in-Block.body c.as_slice-in-Block.result.now c.args.left c.args.loop_number name.now c.in-Block.is c.as_slice-in-Block.ensures h)
    (λ rest h. behind_block c.args.stmt.now c.in-Block.locals c.in-Block.body c.as_slice-in-Block.result.now c.args.left rest c.in-Block.is c.as_slice-in-Block.ensures h)
