use Rattle.std.proofs.Common.{◌≡◌, ◌≤◌, ◌-◌}
use Rattle.affc_grammar.specs.Limits.{loads_in}
use Rattle.affc_syntax.specs.declared.draft.draft.ValueDraft.{size-ValueDraft}
use Rattle.affc_syntax.specs.draft.Drafts.{value}
use Rattle.affc_limits.proofs.assignments.+room_behind.Given as goal

abbrev pub decreases-room_behind : goal.decreases-room_behind
decreases-room_behind l = goal.size-room_behind l

abbrev pub invariant-loop-here : goal.invariant-loop-here
invariant-loop-here l = (l.room - loads_in (value l.here) ≡ l.fn.room - loads_in (value l.fn.v)) × (size-ValueDraft l.here ≤ size-ValueDraft l.fn.v)
