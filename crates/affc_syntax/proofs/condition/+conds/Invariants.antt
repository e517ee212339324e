use Rattle.std.proofs.Common.{◌≡◌, ◌+◌, ◌*◌, ◌-◌, length, drop, map}
use Rattle.affc_syntax.specs.draft.Symbols.{seen}
use Rattle.affc_syntax.specs.draft.Drafts.{cond}
use Rattle.affc_syntax.proofs.CondReads.{and_loop, or_loop}
use Rattle.affc_syntax.proofs.condition.+conds.Given as goal

-- a function calls those of a lower rank at its room, and `mixed_inside` takes one off the room
abbrev pub decreases-mixed_inside : goal.decreases-mixed_inside
decreases-mixed_inside l = 16 * l.room

abbrev pub decreases-half : goal.decreases-half
decreases-half l = 16 * l.room + 1

abbrev pub decreases-prim : goal.decreases-prim
decreases-prim l = 16 * l.room + 2

abbrev pub decreases-and_prim : goal.decreases-and_prim
decreases-and_prim l = 16 * l.room + 3

abbrev pub decreases-more_ands : goal.decreases-more_ands
decreases-more_ands l = 16 * l.room + 4

abbrev pub decreases-or_all : goal.decreases-or_all
decreases-or_all l = 16 * l.room + 5

abbrev pub decreases-more_ors : goal.decreases-more_ors
decreases-more_ors l = 16 * l.room + 6

abbrev pub decreases-joined : goal.decreases-joined
decreases-joined l = 16 * l.room + 7

abbrev pub decreases-behind_half : goal.decreases-behind_half
decreases-behind_half l = 16 * l.room + 8

abbrev pub invariant-more_ands-loop-behind : goal.invariant-more_ands-loop-behind
invariant-more_ands-loop-behind l =
    and_loop l.prelude l.wide (length l.symbols) l.room (cond l.left) (drop l.next (map seen l.symbols))
    ≡ and_loop l.prelude l.wide (length l.symbols) l.room (cond l.fn.first) (drop l.fn.next (map seen l.symbols))

abbrev pub decreases-more_ands-loop-behind : goal.decreases-more_ands-loop-behind
decreases-more_ands-loop-behind l = length l.symbols - l.next

abbrev pub invariant-more_ors-loop-behind : goal.invariant-more_ors-loop-behind
invariant-more_ors-loop-behind l =
    or_loop l.prelude l.wide (length l.symbols) l.room (cond l.left) (drop l.next (map seen l.symbols))
    ≡ or_loop l.prelude l.wide (length l.symbols) l.room (cond l.fn.first) (drop l.fn.next (map seen l.symbols))

abbrev pub decreases-more_ors-loop-behind : goal.decreases-more_ors-loop-behind
decreases-more_ors-loop-behind l = length l.symbols - l.next
