use Rattle.std.proofs.Common.{◌≤◌}
use Rattle.affc_syntax.specs.declared.draft.draft.IxDraft.{size-IxDraft}
use Rattle.affc_syntax.proofs.draft.draft.IxDraft.+drop.Given as goal

abbrev pub decreases-drop : goal.decreases-drop
decreases-drop l = goal.size-drop l

abbrev pub invariant-loop-self : goal.invariant-loop-self
invariant-loop-self l = size-IxDraft l.self ≤ size-IxDraft l.fn.self
