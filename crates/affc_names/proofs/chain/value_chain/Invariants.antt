use Rattle.std.proofs.Common.{◌≡◌, reverse, fold}
use Rattle.affc_syntax.specs.draft.Drafts.{value}
use Rattle.affc_names.specs.Chains.{with_value_step}
use Rattle.affc_syntax.proofs.draft.Nodes.{value_nodes}
use Rattle.affc_names.proofs.chain.value_chain.Given as goal

abbrev pub invariant-loop-left : goal.invariant-loop-left
invariant-loop-left l = value l.fn.draft ≡ fold with_value_step (value l.first) (reverse l.steps.items)

abbrev pub decreases-loop-left : goal.decreases-loop-left
decreases-loop-left l = value_nodes (value l.first)
