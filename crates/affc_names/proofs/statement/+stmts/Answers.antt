use Rattle.std.proofs.Common.{map, length, subst, sym, ap, ◌∙◌, arith}
use Rattle.std.proofs.lemmas.List.{length-map}
use Rattle.std.proofs.lemmas.Result.{err_from_is_err_and}
use Rattle.affc_grammar.specs.Draft as d
use Rattle.affc_grammar.specs.Names as names
use Rattle.affc_syntax.specs.draft.Drafts as seen
use Rattle.affc_names.specs.Stored as stored
use Rattle.affc_names.specs.Gives.{Gives, Fails}
use Rattle.affc_names.proofs.Statements.{for_is, if_is, block_is, lighter, stmts_turn, stmts_stops, locals_forgotten, answered_stmts}
use Rattle.affc_names.proofs.statement.+stmts.Goals as goal

pub block_tree-returns-clause-same : goal.block_tree-returns-clause-same
block_tree-returns-clause-same t c =
    let ls = c.args.locals.now in
    c.forget.ensures
    ∙ locals_forgotten c.args.scope.now c.add_locals.new.scope c.stmts_tree.new.scope (map stored.local (map seen.local ls)) c.in_ok-locals.locals (length ls) c.in_ok-locals.ensures
    (sym (length-map (map seen.local ls) stored.local ∙ length-map ls seen.local)) c.in_ok-body.ensures.same

pub stmt_tree-returns-in-For-clause-tree : goal.stmt_tree-returns-in-For-clause-tree
stmt_tree-returns-in-For-clause-tree t c =
    subst (λ (x : d.StmtDraft). Gives c.for_tree.result (names.stmt_tree c.args.scope.now (stored.stmt x)))
    (sym (for_is c.args.draft.now c.in-For.head c.in-For.body c.as_slice.result.now c.in-For.is c.as_slice.ensures)) c.for_tree.ensures.tree

pub stmt_tree-returns-in-If-clause-tree : goal.stmt_tree-returns-in-If-clause-tree
stmt_tree-returns-in-If-clause-tree t c =
    subst (λ (x : d.StmtDraft). Gives c.if_tree.result (names.stmt_tree c.args.scope.now (stored.stmt x)))
    (sym (if_is c.args.draft.now c.in-If.at c.in-If.cond c.in-If.body c.as_slice-in-If.result.now c.in-If.other c.as_slice-in-If-2.result.now c.in-If.is c.as_slice-in-If.ensures c.as_slice-in-If-2.ensures)) c.if_tree.ensures.tree

pub stmt_tree-returns-in-Block-clause-tree : goal.stmt_tree-returns-in-Block-clause-tree
stmt_tree-returns-in-Block-clause-tree t c =
    subst (λ (x : d.StmtDraft). Gives c.block_tree.result (names.stmt_tree c.args.scope.now (stored.stmt x)))
    (sym (block_is c.args.draft.now c.in-Block.locals c.as_slice-in-Block.result.now c.in-Block.body c.as_slice-in-Block-2.result.now c.in-Block.is c.as_slice-in-Block.ensures c.as_slice-in-Block-2.ensures)) c.block_tree.ensures.tree

pub stmts_tree-stmt_tree-requires : goal.stmts_tree-stmt_tree-requires
stmts_tree-stmt_tree-requires t c =
    let h = lighter c.args.drafts.now c.loop-draft.draft-index c.draft-item.result c.loop-draft-test.true c.draft-item.is in
    omega (arith, h)

pub stmts_tree-returns-in_err-stmt-clause-tree : goal.stmts_tree-returns-in_err-stmt-clause-tree
stmts_tree-returns-in_err-stmt-clause-tree t c =
    let p = err_from_is_err_and c.from_residual.result c.from_residual.ensures.1 in
    rw (p.1, p.2) (stmts_stops c.args.scope.now c.args.drafts.now c.loop-draft.draft-index c.draft-item.result c.loop-draft.stmts c.in_err-stmt.field-0.0 c.loop-draft-test.true c.draft-item.is c.loop-draft.invariant.tree
    (subst (λ s. Fails c.in_err-stmt.field-0.0 (names.stmt_tree s (stored.stmt (seen.stmt c.draft-item.result)))) c.loop-draft.invariant.same c.in_err-stmt.ensures.tree))

pub stmts_tree-loop-draft-preserved : goal.stmts_tree-loop-draft-preserved
stmts_tree-loop-draft-preserved t c = record {
  tree =
      stmts_turn c.args.scope.now c.args.drafts.now c.loop-draft.draft-index c.draft-item.result c.loop-draft.stmts c.in_ok-stmt.stmt c.loop-draft-test.true c.draft-item.is c.loop-draft.invariant.tree
      (ap (λ s. names.stmt_tree s (stored.stmt (seen.stmt c.draft-item.result))) (sym c.loop-draft.invariant.same) ∙ c.in_ok-stmt.ensures.tree)
      ∙ ap answered_stmts (sym c.in_ok-push.ensures.ok);
  same = c.in_ok-stmt.ensures.same ∙ c.loop-draft.invariant.same;
}
