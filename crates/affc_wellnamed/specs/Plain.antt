-- What is asked of an expression: one side of a product holds no name, and no number in it passes the limit.
use Rattle.std.specs.Prelude.{Bool, ◌&&◌}
use Rattle.affc_ast.specs.declared.tree.Ix.{Ix}
use Rattle.affc_cprint.specs.Forms.{Form, form}
use Rattle.affc_wellnamed.specs.declared.plain.Form as code

-- what a contract sees of the code's form
abbrev pub seen : code.Form → Form
seen f = record { named = f.named; affine = f.affine; small = f.small }

abbrev pub is_plain : Ix → Bool
is_plain e = (form e).affine && (form e).small
