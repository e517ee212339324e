use Rattle.std.proofs.Common.{◌≡◌, ◌≤◌, length, subst, sym, ◌∙◌, rules}
use Rattle.affc_cprint.specs.Seen.{seen}
use Rattle.affc_cprint.proofs.Arms.{for_exit, if_exit, else_exit, block_exit, assign_exit, assign_pieces}
use Rattle.affc_cprint.specs.Layout.{stmt_layout}
use Rattle.affc_cprint.specs.Statements.{assign_layout}
use Rattle.affc_grammar.specs.Printed.{stmt_text}
use Rattle.affc_cprint.proofs.stmt.+statements.Goals as goal

pub stmt-returns-in_ok-stmts-in-For : goal.stmt-returns-in_ok-stmts-in-For
stmt-returns-in_ok-stmts-in-For t c =
    for_exit c.end.result _ c.args.prelude c.args.level (seen c.args.names.now) c.args.s.now c.in-For.iter c.as_str.result.now c.as_str.result.now c.in-For.low c.in-For.rel c.in-For.high c.in-For.body c.as_slice.result.now
    (seen c.loop_head.new.names) (seen c.stmts.new.names) (seen c.restore.new.names) c.in_ok-inner-in-For.inner c.held-held.result
    c.in-For.is c.as_slice.ensures c.as_str.ensures c.as_str.ensures c.in_ok-inner-in-For.ensures c.held-held.ensures
    c.in_ok-loop_head-in-For.ensures.0 c.in_ok-loop_head-in-For.ensures.1 c.in_ok-stmts-in-For.ensures.0 c.in_ok-stmts-in-For.ensures.1 c.restore.ensures c.end.ensures

pub stmt-returns-in-Assign : goal.stmt-returns-in-Assign
stmt-returns-in-Assign t c =
    assign_exit c.assign.result _ _ (assign_layout c.args.prelude (seen c.args.names.now) c.in-Assign.op c.in-Assign.id c.as_slice-in-Assign.result.now c.in-Assign.v) (stmt_layout c.args.level (stmt_text c.args.prelude c.args.s.now (seen c.args.names.now))) (seen c.args.names.now)
    (assign_pieces c.args.prelude c.args.level (seen c.args.names.now) c.args.s.now c.in-Assign.op c.in-Assign.id c.in-Assign.subs c.as_slice-in-Assign.result.now c.in-Assign.v c.in-Assign.is c.as_slice-in-Assign.ensures) c.assign.ensures

pub stmt-returns-in_ok-stmts-in-Block : goal.stmt-returns-in_ok-stmts-in-Block
stmt-returns-in_ok-stmts-in-Block t c =
    block_exit c.end-in-Block.result _ c.args.prelude c.args.level (seen c.args.names.now) c.args.s.now c.in-Block.ls c.as_slice-in-Block.result.now c.in-Block.body c.as_slice-in-Block-2.result.now
    (seen c.block_head.new.names) (seen c.stmts-in-Block.new.names) (seen c.restore-in-Block.new.names) c.in_ok-inner-in-Block.inner c.held-held-in-Block.result
    c.in-Block.is c.as_slice-in-Block.ensures c.as_slice-in-Block-2.ensures c.in_ok-inner-in-Block.ensures c.held-held-in-Block.ensures
    c.in_ok-block_head-in-Block.ensures.0 c.in_ok-block_head-in-Block.ensures.1 c.in_ok-stmts-in-Block.ensures.0 c.in_ok-stmts-in-Block.ensures.1 c.restore-in-Block.ensures c.end-in-Block.ensures

pub stmt-returns-then-is_empty : goal.stmt-returns-then-is_empty
stmt-returns-then-is_empty t c =
    let none : length c.as_slice-in-If-2.result.now ≡ 0 = search rules in
    if_exit c.end-then-is_empty.result _ c.args.prelude c.args.level (seen c.args.names.now) c.args.s.now c.in-If.c c.in-If.body c.as_slice-in-If.result.now c.in-If.other c.as_slice-in-If-2.result.now
    (seen c.stmts-in-If.new.names) c.in_ok-inner-in-If.inner
    c.in-If.is c.as_slice-in-If.ensures c.as_slice-in-If-2.ensures none c.in_ok-inner-in-If.ensures
    c.in_ok-if_head-in-If.ensures c.in_ok-stmts-in-If.ensures.0 c.in_ok-stmts-in-If.ensures.1 c.end-then-is_empty.ensures

pub stmt-returns-in_ok-stmts-in-If-2 : goal.stmt-returns-in_ok-stmts-in-If-2
stmt-returns-in_ok-stmts-in-If-2 t c =
    let asked : 1 ≤ length c.as_slice-in-If-2.result.now = search rules in
    let some : 1 ≤ length c.as_slice-in-If-3.result.now = subst (λ l. 1 ≤ length l) (c.as_slice-in-If-2.ensures ∙ sym c.as_slice-in-If-3.ensures) asked in
    else_exit c.end-in-If.result _ c.args.prelude c.args.level (seen c.args.names.now) c.args.s.now c.in-If.c c.in-If.body c.as_slice-in-If.result.now c.in-If.other c.as_slice-in-If-3.result.now
    (seen c.stmts-in-If.new.names) (seen c.stmts-in-If-2.new.names) c.in_ok-inner-in-If.inner
    c.in-If.is c.as_slice-in-If.ensures c.as_slice-in-If-3.ensures some c.in_ok-inner-in-If.ensures
    c.in_ok-if_head-in-If.ensures c.in_ok-stmts-in-If.ensures.0 c.in_ok-stmts-in-If.ensures.1
    c.in_ok-before_other-in-If.ensures c.in_ok-stmts-in-If-2.ensures.0 c.in_ok-stmts-in-If-2.ensures.1 c.end-in-If.ensures
