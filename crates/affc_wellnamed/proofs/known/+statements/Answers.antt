use Rattle.affc_wellnamed.specs.Sights.{known_in}
use Rattle.affc_wellnamed.proofs.Sighted.{for_arm, if_arm, if_off, block_arm}
use Rattle.affc_wellnamed.proofs.known.+statements.Goals as goal

pub stmt_known-returns-then-for_known : goal.stmt_known-returns-then-for_known
stmt_known-returns-then-for_known t c =
    for_arm c.args.prelude c.args.s.now c.in-For.iter c.in-For.low c.in-For.rel c.in-For.high c.in-For.body c.as_slice.result.now c.as_str-then-for_known.result c.as_str.result (record { ref_ptr = c.args.sight.ref_ptr; now = c.args.sight.now }) c.for_known.result c.stmts_known.result
    c.in-For.is c.as_str-then-for_known.ensures c.as_str.ensures c.as_slice.ensures c.if-for_known.true c.for_known.ensures c.stmts_known.ensures

pub stmt_known-returns-then-stmts_known : goal.stmt_known-returns-then-stmts_known
stmt_known-returns-then-stmts_known t c =
    if_arm (known_in c.args.prelude c.args.sight.now) c.args.s.now c.in-If.cond c.in-If.body c.as_slice-then-cond_known.result.now c.in-If.other c.as_slice-then-stmts_known.result.now c.cond_known.result c.stmts_known-then-cond_known.result c.stmts_known-then-stmts_known.result
    c.in-If.is c.as_slice-then-cond_known.ensures c.as_slice-then-stmts_known.ensures c.if-cond_known.true c.cond_known.ensures c.if-stmts_known.true c.stmts_known-then-cond_known.ensures c.stmts_known-then-stmts_known.ensures

pub stmt_known-returns-else-stmts_known : goal.stmt_known-returns-else-stmts_known
stmt_known-returns-else-stmts_known t c =
    if_off (known_in c.args.prelude c.args.sight.now) c.args.s.now c.in-If.cond c.in-If.body c.as_slice-then-cond_known.result.now c.in-If.other c.cond_known.result c.stmts_known-then-cond_known.result
    c.in-If.is c.as_slice-then-cond_known.ensures c.if-cond_known.true c.cond_known.ensures c.if-stmts_known.false c.stmts_known-then-cond_known.ensures

pub stmt_known-returns-then-block_known : goal.stmt_known-returns-then-block_known
stmt_known-returns-then-block_known t c =
    block_arm c.args.prelude c.args.s.now c.in-Block.locals c.as_slice-in-Block.result.now c.in-Block.body c.as_slice-then-block_known.result.now c.as_slice-then-block_known-2.result (record { ref_ptr = c.args.sight.ref_ptr; now = c.args.sight.now }) c.block_known.result c.stmts_known-then-block_known.result
    c.in-Block.is c.as_slice-in-Block.ensures c.as_slice-then-block_known-2.ensures c.as_slice-then-block_known.ensures c.if-block_known.true c.block_known.ensures c.stmts_known-then-block_known.ensures
