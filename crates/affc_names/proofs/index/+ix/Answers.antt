use Rattle.std.proofs.Common.{fold, sym, ap, ◌∙◌, arith}
use Rattle.std.proofs.lemmas.Result.{err_from_is_err_and}
use Rattle.affc_grammar.specs.Names as names
use Rattle.affc_syntax.specs.draft.Drafts.{ix}
use Rattle.affc_names.specs.Chains.{with_step, step_tree}
use Rattle.affc_names.specs.Stored as stored
use Rattle.affc_names.proofs.Chains.{ix_starts, ix_first_fails, ix_first_smaller, ix_step_smaller, stops}
use Rattle.affc_names.proofs.index.+ix.Goals as goal

pub ix_tree-operand_tree-requires : goal.ix_tree-operand_tree-requires
ix_tree-operand_tree-requires t c =
    let h = ix_first_smaller (ix c.args.draft.now) (ix c.in_ok-chain.chain.first.now) c.in_ok-chain.chain.steps.items c.in_ok-chain.ensures.whole in
    (omega (arith, h), c.in_ok-chain.ensures.operand)

pub ix_tree-returns-in_err-tree : goal.ix_tree-returns-in_err-tree
ix_tree-returns-in_err-tree t c =
    let p = err_from_is_err_and c.from_residual-in_err-tree.result c.from_residual-in_err-tree.ensures.1 in
    rw (p.1, p.2) (ix_first_fails c.args.scope.now (ix c.args.draft.now) (ix c.in_ok-chain.chain.first.now) c.in_ok-chain.chain.steps.items c.in_err-tree.field-0.0 c.in_ok-chain.ensures.whole c.in_err-tree.ensures)

pub ix_tree-loop-step-init : goal.ix_tree-loop-step-init
ix_tree-loop-step-init t c =
    let first = ix c.in_ok-chain.chain.first.now in
    let whole = c.in_ok-chain.ensures.whole ∙ ap (fold with_step first) (sym c.as_slice-step-items.ensures.value) in
    ix_starts c.args.scope.now (ix c.args.draft.now) first c.as_slice-step-items.result.now c.in_ok-tree.tree whole c.in_ok-tree.ensures

pub ix_tree-with_step-requires : goal.ix_tree-with_step-requires
ix_tree-with_step-requires t c =
    let first = ix c.in_ok-chain.chain.first.now in
    let whole = c.in_ok-chain.ensures.whole ∙ ap (fold with_step first) (sym c.as_slice-step-items.ensures.value) in
    let h = ix_step_smaller (ix c.args.draft.now) first c.as_slice-step-items.result.now c.loop-step.step-index c.step-item.result whole c.loop-step-test.true c.step-item.is in
    (omega (arith, h), tt)

pub ix_tree-returns-in_err-tree-2 : goal.ix_tree-returns-in_err-tree-2
ix_tree-returns-in_err-tree-2 t c =
    let p = err_from_is_err_and c.from_residual-in_err-tree-2.result c.from_residual-in_err-tree-2.ensures.1 in
    rw (p.1, p.2) (stops (step_tree c.args.scope.now) (names.ix_tree c.args.scope.now (stored.ix (ix c.args.draft.now))) c.as_slice-step-items.result.now c.loop-step.step-index c.step-item.result c.loop-step.tree c.in_err-tree-2.field-0.0
    c.loop-step-test.true c.step-item.is c.loop-step.invariant c.in_err-tree-2.ensures)
