use Rattle.std.proofs.Common.{◌≡◌, ◌+◌, ◌*◌, Ok, drop}
use Rattle.affc_grammar.specs.Names as names
use Rattle.affc_syntax.specs.draft.Drafts as seen
use Rattle.affc_names.specs.Chains.{value_step_tree}
use Rattle.affc_names.specs.Stored as stored
use Rattle.affc_syntax.proofs.draft.Nodes.{value_nodes}
use Rattle.affc_names.proofs.Chains.{step_nodes, followed}
use Rattle.affc_names.proofs.value.+value.Given as goal

abbrev pub decreases-value_tree : goal.decreases-value_tree
decreases-value_tree l = 2 * value_nodes (seen.value l.draft.now)

abbrev pub decreases-with_step : goal.decreases-with_step
decreases-with_step l = 2 * step_nodes l.step.now + 1

abbrev pub invariant-value_tree-loop-step : goal.invariant-value_tree-loop-step
invariant-value_tree-loop-step l = names.value_tree l.scope (stored.value (seen.value l.fn.draft)) ≡ followed (value_step_tree l.scope) (Ok l.tree) (drop l.step-index l.step-items)
