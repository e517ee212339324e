use Rattle.std.proofs.Common.{◌≡◌, ◌-◌, length, drop, map}
use Rattle.affc_syntax.specs.draft.Symbols.{seen}
use Rattle.affc_syntax.specs.draft.Drafts.{value}
use Rattle.affc_syntax.specs.ValueReading.{more_shifts}
use Rattle.affc_syntax.proofs.value.more_shifts.Given as goal

abbrev pub invariant-loop-is_left : goal.invariant-loop-is_left
invariant-loop-is_left l = more_shifts (value l.left) (drop l.next (map seen l.symbols)) ≡ more_shifts (value l.fn.a) (drop l.fn.next (map seen l.symbols))

abbrev pub decreases-loop-is_left : goal.decreases-loop-is_left
decreases-loop-is_left l = length l.symbols - l.next
