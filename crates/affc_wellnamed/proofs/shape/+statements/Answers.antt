use Rattle.affc_wellnamed.proofs.Shapes.{for_arm, if_arm, block_arm, body_step}
use Rattle.affc_wellnamed.proofs.shape.+statements.Goals as goal

pub stmt_shape-returns-in-For : goal.stmt_shape-returns-in-For
stmt_shape-returns-in-For t c =
    for_arm c.args.prelude c.args.s.now c.in-For.iter c.in-For.low c.in-For.rel c.in-For.high c.in-For.body c.as_slice.result.now c.for_head.result c.stmts_behind.result c.closed.result c.worded.result
    c.in-For.is c.as_slice.ensures c.for_head.ensures c.stmts_behind.ensures c.closed.ensures c.worded.ensures

pub stmt_shape-returns-in-If : goal.stmt_shape-returns-in-If
stmt_shape-returns-in-If t c =
    if_arm c.args.prelude c.args.s.now c.in-If.cond c.in-If.body c.as_slice-in-If.result.now c.in-If.other c.as_slice-in-If-2.result.now c.if_head.result c.stmts_behind-body.result c.branch_behind.result c.closed-in-If.result c.worded-in-If.result
    c.in-If.is c.as_slice-in-If.ensures c.as_slice-in-If-2.ensures c.if_head.ensures c.stmts_behind-body.ensures c.branch_behind.ensures c.closed-in-If.ensures c.worded-in-If.ensures

pub stmt_shape-returns-in-Block : goal.stmt_shape-returns-in-Block
stmt_shape-returns-in-Block t c =
    block_arm c.args.prelude c.args.s.now c.in-Block.locals c.as_slice-in-Block.result.now c.in-Block.body c.as_slice-in-Block-2.result.now c.block_head.result c.stmts_behind-in-Block.result c.closed-in-Block.result
    c.in-Block.is c.as_slice-in-Block.ensures c.as_slice-in-Block-2.ensures c.block_head.ensures c.stmts_behind-in-Block.ensures c.closed-in-Block.ensures

pub stmts_behind-loop-s-preserved : goal.stmts_behind-loop-s-preserved
stmts_behind-loop-s-preserved t c =
    body_step c.args.prelude c.loop-s.all c.both-all.result c.stmt_shape.result _ c.args.body.now c.loop-s.s-index c.s-item.result c.loop-s-test.true c.s-item.is c.stmt_shape.ensures c.both-all.ensures c.loop-s.invariant
