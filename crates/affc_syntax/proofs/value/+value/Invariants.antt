use Rattle.std.proofs.Common.{◌≡◌, ◌+◌, ◌*◌, ◌-◌, length, drop, map}
use Rattle.affc_syntax.specs.draft.Symbols.{seen}
use Rattle.affc_syntax.specs.draft.Drafts.{value}
use Rattle.affc_syntax.proofs.ValueReads.{level_at, more}
use Rattle.affc_syntax.proofs.value.+value.Given as goal

-- a function calls those of a lower rank at its room and level, and `value_inside` takes one off the room
abbrev pub decreases-value_inside : goal.decreases-value_inside
decreases-value_inside l = 64 * l.room

abbrev pub decreases-parens : goal.decreases-parens
decreases-parens l = 64 * l.room + 1

abbrev pub decreases-plain : goal.decreases-plain
decreases-plain l = 64 * l.room + 2

abbrev pub decreases-primary : goal.decreases-primary
decreases-primary l = 64 * l.room + 3

abbrev pub decreases-value_level : goal.decreases-value_level
decreases-value_level l = 64 * l.room + l.level + 4

abbrev pub invariant-value_level-loop-op : goal.invariant-value_level-loop-op
invariant-value_level-loop-op l =
    more l.prelude (length l.symbols) l.room l.level (value l.left) (drop l.next (map seen l.symbols))
    ≡ level_at l.prelude (length l.symbols) l.room l.level (drop l.fn.next (map seen l.symbols))

abbrev pub decreases-value_level-loop-op : goal.decreases-value_level-loop-op
decreases-value_level-loop-op l = length l.symbols - l.next
