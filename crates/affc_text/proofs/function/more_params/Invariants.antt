use Rattle.std.proofs.Common.{◌≡◌, ◌-◌, length, drop, map}
use Rattle.affc_syntax.specs.draft.Drafts.{param}
use Rattle.affc_syntax.specs.draft.Symbols.{seen}
use Rattle.affc_text.specs.TextReading as reading
use Rattle.affc_text.proofs.function.more_params.Given as goal

abbrev pub invariant-loop-behind : goal.invariant-loop-behind
invariant-loop-behind l =
    reading.more_params l.prelude (length l.symbols) l.room (map param l.params) (drop l.next (map seen l.symbols))
    ≡ reading.more_params l.prelude (length l.symbols) l.room (map param l.fn.params) (drop l.fn.next (map seen l.symbols))

abbrev pub decreases-loop-behind : goal.decreases-loop-behind
decreases-loop-behind l = length l.symbols - l.next
