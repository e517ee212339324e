-- Programs whose text is so short that loops, locals and tests have room round its statements.
use Rattle.std.specs.Prelude.{◌≡◌, ◌≤◌, ℕ, true, List, [], ◌∷◌, Some, slice_get}
use Rattle.affc_ast.specs.declared.tree.Program.{Program}
use Rattle.affc_ast.specs.Trace.{Assignment, assignments}
use Rattle.affc_wellnamed.specs.declared.shape.Shape.{Shape}
use Rattle.affc_wellnamed.specs.Shape.{empty, stmts_behind, decls_behind, head_line, lines_shape, program_shape, is_bounded}
use Rattle.affc_domain.specs.Rounds.{Round, rounds}
use Rattle.affc_loops.specs.Loops.{guarded, moved_assign}

-- at most the tokens, the run, the brackets and the items of another
pub record KeepsTo (most s : Shape) : Type 0 where
  pub tokens : s.tokens ≤ most.tokens
  pub run : s.run ≤ most.run
  pub depth : s.depth ≤ most.depth
  pub items : s.items ≤ most.items

abbrev pub with_prelude : Program → Program
with_prelude program = record program { prelude = true }

-- a function's head and temporaries, behind the prelude
abbrev pub head_shape : Program → Shape
head_shape program = decls_behind true (head_line true program.params) program.temps

-- an assignment under the loops and conditions round it, as the block of a schedule's loops tests them
abbrev pub tested_shape : (first more from : ℕ) → List Round → Assignment → Shape
tested_shape first more from rs a = stmts_behind true empty (guarded first more from rs (moved_assign first more a ∷ []))

-- The text keeps the wide limits, and the lines before the function fill at most what a run may have. The function's head, which
-- the loops keep, and each assignment with its loops and conditions, which its block has round it once more, are so short that
-- 64 blocks with their locals and tests have room behind the head, under 12 more loops.
pub record IsShort (program : Program) : Type 0 where
  pub bounded : is_bounded (program_shape program) ≡ true
  pub lines : KeepsTo (record { tokens = 65536; run = 65536; depth = 256; items = 0 }) (lines_shape program)
  pub head : KeepsTo (record { tokens = 5300000; run = 32000; depth = 239; items = 256 }) (head_shape program)
  pub statements : (statement : ℕ) (rs : List Round) (a : Assignment) → slice_get (rounds program) statement ≡ Some rs → slice_get (assignments program) statement ≡ Some a
      → (first more from : ℕ) → KeepsTo (record { tokens = 160000; run = 32000; depth = 239; items = 38 }) (tested_shape first more from rs a)
