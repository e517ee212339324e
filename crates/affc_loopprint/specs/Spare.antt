-- Programs whose loops can be printed, however they are scheduled.
use Rattle.std.specs.Prelude.{◌≡◌, ℕ, false, true, IsTrue, List, Some, slice_get}
use Rattle.std.specs.List.{All}
use Rattle.affc_ast.specs.declared.tree.Program.{Program}
use Rattle.affc_ast.specs.Locals.{has_no_locals}
use Rattle.affc_ast.specs.Names.{is_reserved}
use Rattle.affc_cprint.specs.Forms.{program_passes}
use Rattle.affc_wellnamed.specs.Known.{program_known}
use Rattle.affc_wellnamed.specs.Plain.{is_plain}
use Rattle.affc_wellnamed.specs.Work.{program_fits}
use Rattle.affc_domain.specs.Rounds.{Round, rounds}
use Rattle.affc_loops.specs.Loops.{loop_names}
use Rattle.affc_loopprint.specs.Short.{IsShort}

-- no iterator has a name that is kept for the language
abbrev pub HaveFreeNames : List Round → Type 0
HaveFreeNames rs = All (λ w. is_reserved w ≡ false) (loop_names rs)

-- Well named, without locals, with iterators that may be locals, and short enough that loops, locals and tests have room beside it.
pub record IsSpare (program : Program) : Type 0 where
  pub known : program_known program ≡ true
  pub plain : program_passes is_plain program ≡ true
  pub fits : program_fits program ≡ true
  pub bare : IsTrue (has_no_locals program)
  pub iterators : (k : ℕ) (rs : List Round) → slice_get (rounds program) k ≡ Some rs → HaveFreeNames rs
  pub short : IsShort program
