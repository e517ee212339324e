use Rattle.std.proofs.Common.{fold, sym, ap, ◌∙◌, arith}
use Rattle.std.proofs.lemmas.Result.{err_from_is_err_and}
use Rattle.affc_grammar.specs.Names as names
use Rattle.affc_syntax.specs.draft.Drafts.{value}
use Rattle.affc_names.specs.Chains.{with_value_step, value_step_tree}
use Rattle.affc_names.specs.Stored as stored
use Rattle.affc_names.proofs.Chains.{value_starts, value_first_fails, value_step_smaller, stops}
use Rattle.affc_names.proofs.value.+value.Goals as goal

pub value_tree-returns-in_err-tree : goal.value_tree-returns-in_err-tree
value_tree-returns-in_err-tree t c =
    let p = err_from_is_err_and c.from_residual-in_err-tree.result c.from_residual-in_err-tree.ensures.1 in
    rw (p.1, p.2) (value_first_fails c.args.scope.now (value c.args.draft.now) (value c.in_ok-chain.chain.first.now) c.in_ok-chain.chain.steps.items c.in_err-tree.field-0.0 c.in_ok-chain.ensures.whole c.in_err-tree.ensures)

pub value_tree-loop-step-init : goal.value_tree-loop-step-init
value_tree-loop-step-init t c =
    let first = value c.in_ok-chain.chain.first.now in
    let whole = c.in_ok-chain.ensures.whole ∙ ap (fold with_value_step first) (sym c.as_slice-step-items.ensures.value) in
    value_starts c.args.scope.now (value c.args.draft.now) first c.as_slice-step-items.result.now c.in_ok-tree.tree whole c.in_ok-tree.ensures

pub value_tree-with_step-requires : goal.value_tree-with_step-requires
value_tree-with_step-requires t c =
    let first = value c.in_ok-chain.chain.first.now in
    let whole = c.in_ok-chain.ensures.whole ∙ ap (fold with_value_step first) (sym c.as_slice-step-items.ensures.value) in
    let h = value_step_smaller (value c.args.draft.now) first c.as_slice-step-items.result.now c.loop-step.step-index c.step-item.result whole c.loop-step-test.true c.step-item.is in
    (omega (arith, h), tt)

pub value_tree-returns-in_err-tree-2 : goal.value_tree-returns-in_err-tree-2
value_tree-returns-in_err-tree-2 t c =
    let p = err_from_is_err_and c.from_residual-in_err-tree-2.result c.from_residual-in_err-tree-2.ensures.1 in
    rw (p.1, p.2) (stops (value_step_tree c.args.scope.now) (names.value_tree c.args.scope.now (stored.value (value c.args.draft.now))) c.as_slice-step-items.result.now c.loop-step.step-index c.step-item.result c.loop-step.tree c.in_err-tree-2.field-0.0
    c.loop-step-test.true c.step-item.is c.loop-step.invariant c.in_err-tree-2.ensures)
