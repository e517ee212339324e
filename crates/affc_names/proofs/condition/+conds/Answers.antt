use Rattle.std.proofs.Common.{sym, ap, ◌∙◌, arith}
use Rattle.std.proofs.lemmas.Result.{err_from_is_err_and}
use Rattle.affc_names.proofs.Conditions.{cond_lighter, conds_turn, conds_stops, answered_conds, all_made, any_made, all_fails, any_fails}
use Rattle.affc_names.proofs.condition.+conds.Goals as goal

pub cond_trees-cond_tree-requires : goal.cond_trees-cond_tree-requires
cond_trees-cond_tree-requires t c =
    let h = cond_lighter c.args.drafts.now c.loop-draft.draft-index c.draft-item.result c.loop-draft-test.true c.draft-item.is in
    omega (arith, h)

pub cond_trees-returns-in_err-tree : goal.cond_trees-returns-in_err-tree
cond_trees-returns-in_err-tree t c =
    let p = err_from_is_err_and c.from_residual.result c.from_residual.ensures.1 in
    rw (p.1, p.2) (conds_stops c.args.scope.now c.args.drafts.now c.loop-draft.draft-index c.draft-item.result c.loop-draft.trees c.in_err-tree.field-0.0 c.loop-draft-test.true c.draft-item.is c.loop-draft.invariant c.in_err-tree.ensures)

pub cond_trees-loop-draft-preserved : goal.cond_trees-loop-draft-preserved
cond_trees-loop-draft-preserved t c =
    conds_turn c.args.scope.now c.args.drafts.now c.loop-draft.draft-index c.draft-item.result c.loop-draft.trees c.in_ok-tree.tree c.loop-draft-test.true c.draft-item.is c.loop-draft.invariant c.in_ok-tree.ensures
    ∙ ap answered_conds (sym c.in_ok-push.ensures.ok)

pub cond_tree-returns-in_err-trees-in-All : goal.cond_tree-returns-in_err-trees-in-All
cond_tree-returns-in_err-trees-in-All t c =
    let p = err_from_is_err_and c.from_residual.result c.from_residual.ensures.1 in
    rw (p.1, p.2) (all_fails c.args.scope.now c.args.draft.now c.in-All.drafts c.as_slice.result.now c.as_slice.ensures c.in-All.is c.in_err-trees-in-All.field-0.0 c.in_err-trees-in-All.ensures)

pub cond_tree-returns-in_ok-trees-in-All : goal.cond_tree-returns-in_ok-trees-in-All
cond_tree-returns-in_ok-trees-in-All t c = all_made c.args.scope.now c.args.draft.now c.in-All.drafts c.as_slice.result.now c.as_slice.ensures c.in-All.is c.in_ok-trees-in-All.trees c.in_ok-trees-in-All.ensures

pub cond_tree-returns-in_err-trees-in-Any : goal.cond_tree-returns-in_err-trees-in-Any
cond_tree-returns-in_err-trees-in-Any t c =
    let p = err_from_is_err_and c.from_residual-in_err-trees-in-Any.result c.from_residual-in_err-trees-in-Any.ensures.1 in
    rw (p.1, p.2) (any_fails c.args.scope.now c.args.draft.now c.in-Any.drafts c.as_slice-in-Any.result.now c.as_slice-in-Any.ensures c.in-Any.is c.in_err-trees-in-Any.field-0.0 c.in_err-trees-in-Any.ensures)

pub cond_tree-returns-in_ok-trees-in-Any : goal.cond_tree-returns-in_ok-trees-in-Any
cond_tree-returns-in_ok-trees-in-Any t c = any_made c.args.scope.now c.args.draft.now c.in-Any.drafts c.as_slice-in-Any.result.now c.as_slice-in-Any.ensures c.in-Any.is c.in_ok-trees-in-Any.trees c.in_ok-trees-in-Any.ensures
