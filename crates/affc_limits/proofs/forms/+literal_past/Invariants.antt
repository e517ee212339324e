use Rattle.std.proofs.Common.{◌≡◌, ◌≤◌}
use Rattle.affc_grammar.specs.Limits.{literals_past}
use Rattle.affc_syntax.specs.declared.draft.draft.IxDraft.{size-IxDraft}
use Rattle.affc_syntax.specs.draft.Drafts.{ix}
use Rattle.affc_limits.specs.Places.{least, lesser}
use Rattle.affc_limits.proofs.forms.+literal_past.Given as goal

abbrev pub decreases-literal_past : goal.decreases-literal_past
decreases-literal_past l = goal.size-literal_past l

abbrev pub invariant-loop-here : goal.invariant-loop-here
invariant-loop-here l = (lesser (least (literals_past l.limit (ix l.here))) l.behind ≡ least (literals_past l.limit (ix l.fn.e))) × (size-IxDraft l.here ≤ size-IxDraft l.fn.e)
