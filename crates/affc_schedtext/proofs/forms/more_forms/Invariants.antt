use Rattle.std.proofs.Common.{◌≡◌, ◌-◌, length, drop, map}
use Rattle.affc_schedtext.specs.Terms.{term}
use Rattle.affc_syntax.specs.draft.Symbols.{seen}
use Rattle.affc_schedtext.specs.Drafting as drafting
use Rattle.affc_schedtext.specs.Seen.{scope_seen}
use Rattle.affc_schedtext.proofs.forms.more_forms.Given as goal

abbrev pub invariant-loop-behind : goal.invariant-loop-behind
invariant-loop-behind l =
    drafting.more_forms (length l.symbols) l.room (scope_seen l.scope) (map term l.forms) (drop l.next (map seen l.symbols))
    ≡ drafting.more_forms (length l.symbols) l.room (scope_seen l.scope) (map term l.fn.forms) (drop l.fn.next (map seen l.symbols))

abbrev pub decreases-loop-behind : goal.decreases-loop-behind
decreases-loop-behind l = length l.symbols - l.next
