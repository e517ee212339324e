use Rattle.std.proofs.Common.{◌≡◌, ◌-◌, length, drop, map}
use Rattle.affc_syntax.specs.draft.Symbols.{seen}
use Rattle.affc_syntax.specs.draft.Drafts.{ix}
use Rattle.affc_syntax.specs.IxReading as reading
use Rattle.affc_syntax.proofs.expression.dims.Given as goal

abbrev pub invariant-loop-behind : goal.invariant-loop-behind
invariant-loop-behind l =
    reading.more_dims l.prelude (length l.symbols) l.room (map ix l.dims) (drop l.next (map seen l.symbols))
    ≡ reading.dims l.prelude (length l.symbols) l.room (drop l.fn.next (map seen l.symbols))

abbrev pub decreases-loop-behind : goal.decreases-loop-behind
decreases-loop-behind l = length l.symbols - l.next
