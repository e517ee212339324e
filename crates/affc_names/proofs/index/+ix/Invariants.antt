use Rattle.std.proofs.Common.{◌≡◌, ◌+◌, ◌*◌, Ok, drop}
use Rattle.affc_grammar.specs.Names as names
use Rattle.affc_syntax.specs.draft.Drafts as seen
use Rattle.affc_names.specs.Chains.{step_tree}
use Rattle.affc_names.specs.Stored as stored
use Rattle.affc_syntax.proofs.draft.Nodes.{nodes}
use Rattle.affc_names.proofs.Chains.{followed}
use Rattle.affc_names.proofs.index.+ix.Given as goal

abbrev pub decreases-ix_tree : goal.decreases-ix_tree
decreases-ix_tree l = 3 * nodes (seen.ix l.draft.now) + 1

abbrev pub decreases-operand_tree : goal.decreases-operand_tree
decreases-operand_tree l = 3 * nodes (seen.ix l.draft.now)

abbrev pub decreases-negated : goal.decreases-negated
decreases-negated l = 3 * nodes (seen.ix l.of.now) + 2

abbrev pub decreases-chosen_of : goal.decreases-chosen_of
decreases-chosen_of l = 3 * (nodes (seen.ix l.left.now) + nodes (seen.ix l.right.now)) + 2

abbrev pub decreases-divided_of : goal.decreases-divided_of
decreases-divided_of l = 3 * nodes (seen.ix l.of.now) + 2

abbrev pub decreases-with_step : goal.decreases-with_step
decreases-with_step l = 3 * nodes (seen.ix l.step.now.right.now) + 2

abbrev pub invariant-ix_tree-loop-step : goal.invariant-ix_tree-loop-step
invariant-ix_tree-loop-step l = names.ix_tree l.scope (stored.ix (seen.ix l.fn.draft)) ≡ followed (step_tree l.scope) (Ok l.tree) (drop l.step-index l.step-items)
