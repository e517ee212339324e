use Rattle.std.proofs.Common.{◌≡◌, ◌+◌, ◌*◌, ◌-◌, length, drop, map}
use Rattle.affc_syntax.specs.draft.Symbols.{seen}
use Rattle.affc_grammar.specs.Draft as d
use Rattle.affc_text.specs.Parts as parts
use Rattle.affc_text.specs.Parts.{heads_seen, block_seen}
use Rattle.affc_text.specs.StmtReading as reading
use Rattle.affc_text.proofs.statement.+stmt.Given as goal

-- a function calls those of a lower rank at its room, and those behind an opened bracket take one off the room
abbrev pub decreases-stmts_inside : goal.decreases-stmts_inside
decreases-stmts_inside l = 16 * l.room

abbrev pub decreases-block_inside : goal.decreases-block_inside
decreases-block_inside l = 16 * l.room

abbrev pub decreases-body_turn : goal.decreases-body_turn
decreases-body_turn l = 16 * l.room + 1

abbrev pub decreases-under_heads : goal.decreases-under_heads
decreases-under_heads l = 16 * l.room + 2

abbrev pub decreases-simple : goal.decreases-simple
decreases-simple l = 16 * l.room + 3

abbrev pub decreases-statement : goal.decreases-statement
decreases-statement l = 16 * l.room + 4

abbrev pub decreases-stmt_more : goal.decreases-stmt_more
decreases-stmt_more l = 16 * l.room + 5

abbrev pub decreases-stmts : goal.decreases-stmts
decreases-stmts l = 16 * l.room + 6

abbrev pub decreases-block_stmt : goal.decreases-block_stmt
decreases-block_stmt l = 16 * l.room + 5

abbrev pub decreases-block_more : goal.decreases-block_more
decreases-block_more l = 16 * l.room + 6

abbrev pub decreases-items : goal.decreases-items
decreases-items l = 16 * l.room + 7

abbrev pub invariant-under_heads-loop-first : goal.invariant-under_heads-loop-first
invariant-under_heads-loop-first l =
    reading.under_heads l.prelude (length l.symbols) l.room (reading.stmts_inside l.prelude (length l.symbols) l.room) (heads_seen l.heads) (drop l.next (map seen l.symbols))
    ≡ reading.under_heads l.prelude (length l.symbols) l.room (reading.stmts_inside l.prelude (length l.symbols) l.room) (heads_seen l.fn.heads) (drop l.fn.next (map seen l.symbols))

abbrev pub decreases-under_heads-loop-first : goal.decreases-under_heads-loop-first
decreases-under_heads-loop-first l = length l.symbols - l.next

abbrev pub invariant-stmts-loop-first : goal.invariant-stmts-loop-first
invariant-stmts-loop-first l =
    reading.stmts l.prelude (length l.symbols) l.room (parts.stmts l.stmts) (drop l.next (map seen l.symbols))
    ≡ reading.stmts l.prelude (length l.symbols) l.room d.no_stmts (drop l.fn.next (map seen l.symbols))

abbrev pub decreases-stmts-loop-first : goal.decreases-stmts-loop-first
decreases-stmts-loop-first l = length l.symbols - l.next

abbrev pub invariant-items-loop-first : goal.invariant-items-loop-first
invariant-items-loop-first l =
    reading.items l.prelude (length l.symbols) l.room (block_seen l.block) (drop l.next (map seen l.symbols))
    ≡ reading.items l.prelude (length l.symbols) l.room parts.no_items (drop l.fn.next (map seen l.symbols))

abbrev pub decreases-items-loop-first : goal.decreases-items-loop-first
decreases-items-loop-first l = length l.symbols - l.next
