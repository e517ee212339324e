use Rattle.std.proofs.Common.{◌≡◌, ◌-◌, length, drop, map}
use Rattle.affc_syntax.specs.draft.Symbols.{seen}
use Rattle.affc_schedtext.specs.Drafting as drafting
use Rattle.affc_schedtext.specs.Seen.{stage_seen}
use Rattle.affc_schedtext.proofs.lines.stages.Given as goal

abbrev pub invariant-loop-behind : goal.invariant-loop-behind
invariant-loop-behind l =
    drafting.stages l.outline (length l.symbols) l.room (stage_seen l.stage) (drop l.next (map seen l.symbols))
    ≡ drafting.stages l.outline (length l.symbols) l.room (stage_seen l.fn.stage) (drop l.fn.next (map seen l.symbols))

abbrev pub decreases-loop-behind : goal.decreases-loop-behind
decreases-loop-behind l = length l.symbols - l.next
