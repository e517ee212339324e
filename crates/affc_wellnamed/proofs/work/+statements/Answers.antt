use Rattle.affc_wellnamed.proofs.Works.{for_arm, if_arm}
use Rattle.affc_wellnamed.proofs.work.+statements.Goals as goal

pub work_of-returns-in-For : goal.work_of-returns-in-For
work_of-returns-in-For t c =
    for_arm c.args.s.now c.in-For.iter c.in-For.low c.in-For.rel c.in-For.high c.in-For.body c.as_slice.result.now c.no_work.result c.stmts_behind.result c.looped.result c.in-For.is c.as_slice.ensures c.no_work.ensures c.stmts_behind.ensures c.looped.ensures

pub work_of-returns-in-If : goal.work_of-returns-in-If
work_of-returns-in-If t c =
    if_arm c.args.s.now c.in-If.cond c.in-If.body c.as_slice-in-If.result.now c.in-If.other c.as_slice-in-If-2.result.now c.no_work-in-If.result c.no_work-in-If-2.result c.stmts_behind-in-If.result c.stmts_behind-in-If-2.result c.both.result
    c.in-If.is c.as_slice-in-If.ensures c.as_slice-in-If-2.ensures c.no_work-in-If.ensures c.stmts_behind-in-If.ensures c.no_work-in-If-2.ensures c.stmts_behind-in-If-2.ensures c.both.ensures
