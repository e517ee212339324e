use Rattle.std.proofs.Common.{◌≡◌, ◌≤◌}
use Rattle.affc_grammar.specs.Limits.{value_texts}
use Rattle.affc_syntax.specs.declared.draft.draft.ValueDraft.{size-ValueDraft}
use Rattle.affc_syntax.specs.draft.Drafts.{value}
use Rattle.affc_limits.specs.Texts.{pick, with_found}
use Rattle.affc_limits.proofs.texts.+in_value.Given as goal

abbrev pub decreases-in_value : goal.decreases-in_value
decreases-in_value l = goal.size-in_value l

abbrev pub invariant-loop-here : goal.invariant-loop-here
invariant-loop-here l = (pick l.rule (with_found l.rule l.before (value_texts (value l.here))) l.behind ≡ with_found l.rule l.before (value_texts (value l.fn.v))) × (size-ValueDraft l.here ≤ size-ValueDraft l.fn.v)
