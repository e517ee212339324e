use Rattle.std.proofs.Common.{◌≡◌, map, None, ap, ◌∙◌}
use Rattle.affc_grammar.specs.Limits.{cond_past, divisors_past, divisors_past_in}
use Rattle.affc_syntax.specs.draft.Drafts.{cond, stmt, stmts_of}
use Rattle.affc_limits.specs.Places.{least, lesser, with_places}
use Rattle.affc_limits.proofs.LineLaws.{passed_all}
use Rattle.affc_limits.proofs.DivisorLaws.{all_stmts, of_for, of_if, of_block}
use Rattle.affc_limits.proofs.divisors.+statements.Goals as goal

pub divisors_past-returns : goal.divisors_past-returns
divisors_past-returns t c =
    passed_all (with_places (divisors_past_in c.args.limit)) stmt None c.loop-item.found c.args.body.now c.loop-item.item-index c.loop-item-test.false c.loop-item.invariant
    ∙ all_stmts c.args.limit (map stmt c.args.body.now)

pub in_stmt-returns-in-For : goal.in_stmt-returns-in-For
in_stmt-returns-in-For t c =
    c.divisors_past.ensures
    ∙ ap (λ l. least (divisors_past c.args.limit (stmts_of (map stmt l)))) c.as_slice.ensures
    ∙ of_for c.args.limit c.args.s.now c.in-For.head c.in-For.body c.in-For.is

pub in_stmt-returns-in-If : goal.in_stmt-returns-in-If
in_stmt-returns-in-If t c =
    let inside : c.divisors_past-inside.result ≡ least (divisors_past c.args.limit (stmts_of (map stmt c.in-If.body))) = c.divisors_past-inside.ensures ∙ ap (λ l. least (divisors_past c.args.limit (stmts_of (map stmt l)))) c.as_slice-in-If.ensures in
    let behind : c.divisors_past-behind.result ≡ least (divisors_past c.args.limit (stmts_of (map stmt c.in-If.other))) = c.divisors_past-behind.ensures ∙ ap (λ l. least (divisors_past c.args.limit (stmts_of (map stmt l)))) c.as_slice-in-If-2.ensures in
    let first : c.lesser.result ≡ lesser (least (cond_past c.args.limit (cond c.in-If.cond))) (least (divisors_past c.args.limit (stmts_of (map stmt c.in-If.body)))) = c.lesser.ensures ∙ (λ i. lesser (c.in_cond-tests.ensures i) (inside i)) in
    c.lesser-in-If.ensures
    ∙ (λ i. lesser (first i) (behind i))
    ∙ of_if c.args.limit c.args.s.now c.in-If.at c.in-If.cond c.in-If.body c.in-If.other c.in-If.is

pub in_stmt-returns-in-Block : goal.in_stmt-returns-in-Block
in_stmt-returns-in-Block t c =
    c.divisors_past-in-Block.ensures
    ∙ ap (λ l. least (divisors_past c.args.limit (stmts_of (map stmt l)))) c.as_slice-in-Block.ensures
    ∙ of_block c.args.limit c.args.s.now c.in-Block.locals c.in-Block.body c.in-Block.is
