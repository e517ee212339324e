use Rattle.std.proofs.Common.{◌≡◌, ◌-◌, length, drop, map}
use Rattle.affc_syntax.specs.draft.Drafts.{decl}
use Rattle.affc_syntax.specs.draft.Symbols.{seen}
use Rattle.affc_text.specs.TextReading as reading
use Rattle.affc_text.proofs.function.more_temps.Given as goal

abbrev pub invariant-loop-behind : goal.invariant-loop-behind
invariant-loop-behind l =
    reading.more_temps l.prelude (length l.symbols) l.room (map decl l.temps) (drop l.next (map seen l.symbols))
    ≡ reading.more_temps l.prelude (length l.symbols) l.room (map decl l.fn.temps) (drop l.fn.next (map seen l.symbols))

abbrev pub decreases-loop-behind : goal.decreases-loop-behind
decreases-loop-behind l = length l.symbols - l.next
