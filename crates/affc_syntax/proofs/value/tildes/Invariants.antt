use Rattle.std.proofs.Common.{◌≡◌, ◌+◌, ◌≤◌, length, drop, map}
use Rattle.affc_syntax.specs.draft.Symbols.{seen}
use Rattle.affc_syntax.specs.ValueReading.{more_tildes}
use Rattle.affc_syntax.proofs.value.tildes.Given as goal

-- each "~" that was counted is one of the symbols
abbrev pub invariant-loop-behind : goal.invariant-loop-behind
invariant-loop-behind l =
    (more_tildes l.count (drop l.next (map seen l.symbols)) ≡ more_tildes 0 (drop l.fn.next (map seen l.symbols)))
    × (l.count + length (drop l.next (map seen l.symbols)) ≤ length l.symbols)

abbrev pub decreases-loop-behind : goal.decreases-loop-behind
decreases-loop-behind l = length (drop l.next (map seen l.symbols))
