use Rattle.std.proofs.Common.{◌≡◌, ◌-◌, length, drop, map}
use Rattle.affc_syntax.specs.draft.Symbols.{seen}
use Rattle.affc_text.specs.Parts as parts
use Rattle.affc_text.specs.Parts.{inside_seen}
use Rattle.affc_text.specs.TextReading as reading
use Rattle.affc_text.proofs.function.inner.Given as goal

abbrev pub invariant-loop-first : goal.invariant-loop-first
invariant-loop-first l =
    reading.inner l.prelude (length l.symbols) l.room (inside_seen l.inside) (drop l.next (map seen l.symbols))
    ≡ reading.inner l.prelude (length l.symbols) l.room parts.no_inside (drop l.fn.next (map seen l.symbols))

abbrev pub decreases-loop-first : goal.decreases-loop-first
decreases-loop-first l = length l.symbols - l.next
