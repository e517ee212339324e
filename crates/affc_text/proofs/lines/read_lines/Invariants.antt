use Rattle.std.proofs.Common.{◌≡◌, ◌-◌, length, drop, map}
use Rattle.affc_syntax.specs.draft.Symbols.{seen}
use Rattle.affc_text.specs.Parts as parts
use Rattle.affc_text.specs.Parts.{lines_seen}
use Rattle.affc_text.specs.TextReading as reading
use Rattle.affc_text.proofs.lines.read_lines.Given as goal

abbrev pub invariant-loop-behind : goal.invariant-loop-behind
invariant-loop-behind l =
    reading.more_lines (length l.symbols) l.room (lines_seen l.lines) (drop l.next (map seen l.symbols))
    ≡ reading.more_lines (length l.symbols) l.room parts.no_lines (drop l.fn.next (map seen l.symbols))

abbrev pub decreases-loop-behind : goal.decreases-loop-behind
decreases-loop-behind l = length l.symbols - l.next
