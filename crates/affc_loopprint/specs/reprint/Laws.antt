-- What the limits of a text without the prelude give of the text that is printed.
use Rattle.std.specs.Prelude.{◌≡◌, ℕ, false, List}
use Rattle.affc_ast.specs.declared.tree.Program.{Program}
use Rattle.affc_grammar.specs.Reads.{Reads, WellNamed}

-- The program that a text without the prelude reads as is well named: what is printed of it reads, by the wide limits, as the same program.
abbrev pub ReadsWellNamed : Type 0
ReadsWellNamed = (text : List ℕ) (program : Program) → Reads text program → program.prelude ≡ false → WellNamed program
