use Rattle.std.proofs.Common.{◌≡◌, map, ap, fold, ◌∙◌}
use Rattle.affc_grammar.specs.Limits.{assigned}
use Rattle.affc_syntax.specs.draft.Drafts.{cond, stmt, stmts_of}
use Rattle.affc_limits.specs.Assignments.{count_one, round_of, under_body, under_other}
use Rattle.affc_limits.specs.Conditions.{counted}
use Rattle.affc_limits.proofs.AssignmentLaws.{counted_is, of_for, of_if, of_block}
use Rattle.affc_limits.proofs.assignments.+statements.Goals as goal

pub with_stmt-returns-in-For : goal.with_stmt-returns-in-For
with_stmt-returns-in-For t c =
    c.with_stmts.ensures
    ∙ ap (λ l. fold count_one c.args.tally (assigned (round_of c.args.round) (stmts_of (map stmt l)))) c.as_slice.ensures
    ∙ of_for (round_of c.args.round) c.args.tally c.args.s.now c.in-For.head c.in-For.body c.in-For.is

pub with_stmt-returns-in-If : goal.with_stmt-returns-in-If
with_stmt-returns-in-If t c =
    let k = counted (cond c.in-If.cond) in
    let body : c.under_body.result ≡ under_body k c.args.round = c.under_body.ensures ∙ ap (λ y. under_body y c.args.round) c.count-c.ensures in
    let other : c.under_other.result ≡ under_other k c.args.round = c.under_other.ensures ∙ ap (λ y. under_other y c.args.round) c.count-c.ensures in
    let inside : c.with_stmts-inside.result ≡ fold count_one c.args.tally (assigned (round_of (under_body k c.args.round)) (stmts_of (map stmt c.in-If.body))) =
    c.with_stmts-inside.ensures ∙ (λ i. fold count_one c.args.tally (assigned (round_of (body i)) (stmts_of (map stmt (c.as_slice-in-If.ensures i))))) in
    c.with_stmts-in-If.ensures
    ∙ (λ i. fold count_one (inside i) (assigned (round_of (other i)) (stmts_of (map stmt (c.as_slice-in-If-2.ensures i)))))
    ∙ of_if c.args.round c.args.tally c.args.s.now c.in-If.at c.in-If.cond c.in-If.body c.in-If.other c.in-If.is

pub with_stmt-returns-in-Block : goal.with_stmt-returns-in-Block
with_stmt-returns-in-Block t c =
    c.with_stmts-in-Block.ensures
    ∙ ap (λ l. fold count_one c.args.tally (assigned (round_of c.args.round) (stmts_of (map stmt l)))) c.as_slice-in-Block.ensures
    ∙ of_block (round_of c.args.round) c.args.tally c.args.s.now c.in-Block.locals c.in-Block.body c.in-Block.is

pub with_stmts-returns : goal.with_stmts-returns
with_stmts-returns t c = counted_is (round_of c.args.round) c.args.tally c.loop-item.made c.args.body.now c.loop-item.item-index c.loop-item-test.false c.loop-item.invariant
