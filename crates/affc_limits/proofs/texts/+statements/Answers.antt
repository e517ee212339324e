use Rattle.std.proofs.Common.{◌≡◌, map, sym, ap, subst, IfOk, ◌∙◌}
use Rattle.affc_grammar.specs.Limits.{cond_texts, stmt_texts, stmts_texts, value_texts}
use Rattle.affc_syntax.specs.draft.Drafts.{cond, ix, local, stmt, stmts_of, value}
use Rattle.affc_limits.specs.Texts.{with_found}
use Rattle.affc_limits.proofs.TextLaws.{gathered, texts_of, of_for, of_if, of_assign, of_block}
use Rattle.affc_limits.proofs.texts.+statements.Goals as goal

pub in_stmts-returns-clause-found : goal.in_stmts-returns-clause-found
in_stmts-returns-clause-found t c = gathered c.args.rule stmt_texts stmt c.args.items.now c.loop-item.item-index c.args.before c.loop-item.found c.loop-item-test.false c.loop-item.invariant ∙ ap (with_found c.args.rule c.args.before) (sym (texts_of (map stmt c.args.items.now)))

pub in_stmt-returns-in_ok-bounds-in-For-clause-found : goal.in_stmt-returns-in_ok-bounds-in-For-clause-found
in_stmt-returns-in_ok-bounds-in-For-clause-found t c =
    subst (λ o. IfOk c.in_stmts.result (λ p. p ≡ o)) (
    ap (λ l. with_found c.args.rule c.in_ok-bounds-in-For.bounds (stmts_texts (stmts_of (map stmt l)))) c.as_slice.ensures
    ∙ ap (λ o. with_found c.args.rule o (stmts_texts (stmts_of (map stmt c.in-For.body)))) c.in_ok-bounds-in-For.ensures.found
    ∙ of_for c.args.rule c.args.before c.args.s.now c.in-For.head c.in-For.body c.in-For.is
    ) c.in_stmts.ensures.found

pub in_stmt-returns-in_ok-inside-in-If-clause-found : goal.in_stmt-returns-in_ok-inside-in-If-clause-found
in_stmt-returns-in_ok-inside-in-If-clause-found t c =
    let rule = c.args.rule in
    let behind = stmts_texts (stmts_of (map stmt c.in-If.other)) in
    let inside : c.in_ok-inside-in-If.inside ≡ with_found rule (with_found rule c.args.before (cond_texts (cond c.in-If.cond))) (stmts_texts (stmts_of (map stmt c.in-If.body))) =
    c.in_ok-inside-in-If.ensures.found ∙ (λ i. with_found rule (c.in_ok-tests-in-If.ensures.found i) (stmts_texts (stmts_of (map stmt (c.as_slice-in-If.ensures i))))) in
    subst (λ o. IfOk c.in_stmts-in-If-2.result (λ p. p ≡ o)) (
    ap (λ l. with_found rule c.in_ok-inside-in-If.inside (stmts_texts (stmts_of (map stmt l)))) c.as_slice-in-If-2.ensures
    ∙ (λ i. with_found rule (inside i) behind)
    ∙ of_if rule c.args.before c.args.s.now c.in-If.at c.in-If.cond c.in-If.body c.in-If.other c.in-If.is
    ) c.in_stmts-in-If-2.ensures.found

pub in_stmt-returns-in_ok-values-in-Block-clause-found : goal.in_stmt-returns-in_ok-values-in-Block-clause-found
in_stmt-returns-in_ok-values-in-Block-clause-found t c =
    subst (λ o. IfOk c.in_stmts-in-Block.result (λ p. p ≡ o)) (
    ap (λ l. with_found c.args.rule c.in_ok-values-in-Block.values (stmts_texts (stmts_of (map stmt l)))) c.as_slice-in-Block-2.ensures
    ∙ ap (λ o. with_found c.args.rule o (stmts_texts (stmts_of (map stmt c.in-Block.body)))) (c.in_ok-values-in-Block.ensures.found ∙ ap (λ l. with_found c.args.rule c.args.before (map (λ l. l.value) (map local l))) c.as_slice-in-Block.ensures)
    ∙ of_block c.args.rule c.args.before c.args.s.now c.in-Block.locals c.in-Block.body c.in-Block.is
    ) c.in_stmts-in-Block.ensures.found

pub in_stmt-returns-in_ok-stored-in-Assign-clause-found : goal.in_stmt-returns-in_ok-stored-in-Assign-clause-found
in_stmt-returns-in_ok-stored-in-Assign-clause-found t c =
    subst (λ o. IfOk c.in_value.result (λ p. p ≡ o)) (
    ap (λ o. with_found c.args.rule o (value_texts (value c.in-Assign.value))) (c.in_ok-stored-in-Assign.ensures.found ∙ ap (λ l. with_found c.args.rule c.args.before (map ix l)) c.as_slice-in-Assign.ensures)
    ∙ of_assign c.args.rule c.args.before c.args.s.now c.in-Assign.array c.in-Assign.subs c.in-Assign.op c.in-Assign.value c.in-Assign.is
    ) c.in_value.ensures.found
