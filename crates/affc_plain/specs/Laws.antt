-- What the limits of a text without the prelude give of its tree.
use Rattle.std.specs.Prelude.{◌≡◌, ℕ, false, IsTrue, List}
use Rattle.affc_ast.specs.declared.tree.Program.{Program}
use Rattle.affc_ast.specs.Joined.{has_joined_tests}
use Rattle.affc_grammar.specs.Reads.{Reads}
use Rattle.affc_trace.specs.Effects.{has_no_locals}
use Rattle.affc_domain.specs.Plain.{IsPlain}

-- A program without the prelude and without `else`, whose conditions are comparisons other than "!=" joined by "&&": what is compiled.
pub record IsBare (program : Program) : Type 0 where
  pub prelude : program.prelude ≡ false
  pub tests : IsTrue (has_joined_tests program)

-- A bare program that a text reads as is plain.
abbrev pub ReadsPlain : Type 0
ReadsPlain = (text : List ℕ) (program : Program) → Reads text program → IsBare program → IsPlain program

-- A plain program has no locals.
abbrev pub PlainHasNoLocals : Type 0
PlainHasNoLocals = (program : Program) → IsPlain program → IsTrue (has_no_locals program)
