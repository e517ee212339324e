use Rattle.affc_wellnamed.proofs.Plains.{for_arm, if_arm, if_off, block_arm}
use Rattle.affc_wellnamed.proofs.plain.+statements.Goals as goal

pub stmt_plain-returns-then-is_plain-2 : goal.stmt_plain-returns-then-is_plain-2
stmt_plain-returns-then-is_plain-2 t c =
    for_arm c.args.s.now c.in-For.iter c.in-For.low c.in-For.rel c.in-For.high c.in-For.body c.as_slice.result.now c.is_plain.result c.is_plain-then-is_plain.result c.stmts_plain.result
    c.in-For.is c.as_slice.ensures c.if-is_plain.true c.is_plain.ensures c.if-is_plain-2.true c.is_plain-then-is_plain.ensures c.stmts_plain.ensures

pub stmt_plain-returns-then-stmts_plain : goal.stmt_plain-returns-then-stmts_plain
stmt_plain-returns-then-stmts_plain t c =
    if_arm c.args.s.now c.in-If.cond c.in-If.body c.as_slice-then-cond_plain.result.now c.in-If.other c.as_slice-then-stmts_plain.result.now c.cond_plain.result c.stmts_plain-then-cond_plain.result c.stmts_plain-then-stmts_plain.result
    c.in-If.is c.as_slice-then-cond_plain.ensures c.as_slice-then-stmts_plain.ensures c.if-cond_plain.true c.cond_plain.ensures c.if-stmts_plain.true c.stmts_plain-then-cond_plain.ensures c.stmts_plain-then-stmts_plain.ensures

pub stmt_plain-returns-else-stmts_plain : goal.stmt_plain-returns-else-stmts_plain
stmt_plain-returns-else-stmts_plain t c =
    if_off c.args.s.now c.in-If.cond c.in-If.body c.as_slice-then-cond_plain.result.now c.in-If.other c.cond_plain.result c.stmts_plain-then-cond_plain.result
    c.in-If.is c.as_slice-then-cond_plain.ensures c.if-cond_plain.true c.cond_plain.ensures c.if-stmts_plain.false c.stmts_plain-then-cond_plain.ensures

pub stmt_plain-returns-then-locals_plain : goal.stmt_plain-returns-then-locals_plain
stmt_plain-returns-then-locals_plain t c =
    block_arm c.args.s.now c.in-Block.locals c.as_slice-in-Block.result.now c.in-Block.body c.as_slice-then-locals_plain.result.now c.locals_plain.result c.stmts_plain-then-locals_plain.result
    c.in-Block.is c.as_slice-in-Block.ensures c.as_slice-then-locals_plain.ensures c.if-locals_plain.true c.locals_plain.ensures c.stmts_plain-then-locals_plain.ensures
