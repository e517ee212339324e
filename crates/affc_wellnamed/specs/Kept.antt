-- The rules that a program's printed text keeps where the program is well named, each by the tree.
use Rattle.std.specs.Prelude.{Bool, ◌&&◌}
use Rattle.affc_ast.specs.declared.tree.Program.{Program}
use Rattle.affc_wellnamed.specs.Known.{program_known}
use Rattle.affc_cprint.specs.Forms.{program_passes}
use Rattle.affc_wellnamed.specs.Plain.{is_plain}
use Rattle.affc_wellnamed.specs.Work.{program_fits}
use Rattle.affc_wellnamed.specs.Shape.{is_bounded, program_shape}

abbrev pub is_kept : Program → Bool
is_kept p = program_known p && (program_passes is_plain p && (program_fits p && is_bounded (program_shape p)))
