use Rattle.std.proofs.Common.{◌≡◌, ◌+◌, ◌*◌, ◌-◌, length, drop, map}
use Rattle.affc_syntax.specs.draft.Symbols.{seen}
use Rattle.affc_syntax.specs.draft.Drafts.{ix}
use Rattle.affc_syntax.specs.IxReading as reading
use Rattle.affc_syntax.proofs.expression.+ix.Given as goal

-- a function calls those of a lower rank at its room, and `inside` takes one off the room
abbrev pub decreases-inside : goal.decreases-inside
decreases-inside l = 16 * l.room

abbrev pub decreases-group : goal.decreases-group
decreases-group l = 16 * l.room + 1

abbrev pub decreases-choice_call : goal.decreases-choice_call
decreases-choice_call l = 16 * l.room + 1

abbrev pub decreases-rounding_call : goal.decreases-rounding_call
decreases-rounding_call l = 16 * l.room + 1

abbrev pub decreases-called : goal.decreases-called
decreases-called l = 16 * l.room + 2

abbrev pub decreases-atom : goal.decreases-atom
decreases-atom l = 16 * l.room + 3

abbrev pub decreases-factor : goal.decreases-factor
decreases-factor l = 16 * l.room + 4

abbrev pub decreases-multiplied : goal.decreases-multiplied
decreases-multiplied l = 16 * l.room + 5

abbrev pub decreases-factors : goal.decreases-factors
decreases-factors l = 16 * l.room + 6

abbrev pub decreases-term : goal.decreases-term
decreases-term l = 16 * l.room + 7

abbrev pub decreases-added : goal.decreases-added
decreases-added l = 16 * l.room + 8

abbrev pub decreases-terms : goal.decreases-terms
decreases-terms l = 16 * l.room + 9

abbrev pub decreases-expression : goal.decreases-expression
decreases-expression l = 16 * l.room + 10

abbrev pub invariant-factors-loop-behind : goal.invariant-factors-loop-behind
invariant-factors-loop-behind l =
    reading.factors l.prelude (length l.symbols) (reading.inside l.prelude (length l.symbols) l.room) (ix l.left) (drop l.next (map seen l.symbols))
    ≡ reading.factors l.prelude (length l.symbols) (reading.inside l.prelude (length l.symbols) l.room) (ix l.fn.left) (drop l.fn.next (map seen l.symbols))

abbrev pub decreases-factors-loop-behind : goal.decreases-factors-loop-behind
decreases-factors-loop-behind l = length l.symbols - l.next

abbrev pub invariant-terms-loop-is_plus : goal.invariant-terms-loop-is_plus
invariant-terms-loop-is_plus l =
    reading.terms l.prelude (length l.symbols) (reading.inside l.prelude (length l.symbols) l.room) (ix l.left) (drop l.next (map seen l.symbols))
    ≡ reading.terms l.prelude (length l.symbols) (reading.inside l.prelude (length l.symbols) l.room) (ix l.fn.left) (drop l.fn.next (map seen l.symbols))

abbrev pub decreases-terms-loop-is_plus : goal.decreases-terms-loop-is_plus
decreases-terms-loop-is_plus l = length l.symbols - l.next
