use Rattle.std.proofs.Common.{◌≡◌, ◌-◌, ◌≤◌, length, drop, map}
use Rattle.affc_syntax.specs.draft.Symbols.{seen}
use Rattle.affc_schedtext.specs.Seen.{scope_seen}
use Rattle.affc_schedtext.specs.TermReading.{reading_seen, read_on, start}
use Rattle.affc_schedtext.proofs.reading.read_term.Given as goal

abbrev pub invariant-loop-at : goal.invariant-loop-at
invariant-loop-at l =
    (l.at ≤ length l.symbols)
    × (read_on (scope_seen l.scope) (length l.symbols) (reading_seen l.reading) (drop l.at (map seen l.symbols)) ≡ read_on (scope_seen l.scope) (length l.symbols) (start l.room) (drop l.fn.next (map seen l.symbols)))

abbrev pub decreases-loop-at : goal.decreases-loop-at
decreases-loop-at l = length l.symbols - l.at
