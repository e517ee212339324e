use Rattle.std.proofs.Common.{◌≡◌, reverse, fold}
use Rattle.affc_syntax.specs.draft.Drafts.{ix}
use Rattle.affc_names.specs.Chains.{with_step}
use Rattle.affc_syntax.proofs.draft.Nodes.{nodes}
use Rattle.affc_names.proofs.chain.ix_chain.Given as goal

abbrev pub invariant-loop-left : goal.invariant-loop-left
invariant-loop-left l = ix l.fn.draft ≡ fold with_step (ix l.first) (reverse l.steps.items)

abbrev pub decreases-loop-left : goal.decreases-loop-left
decreases-loop-left l = nodes (ix l.first)
