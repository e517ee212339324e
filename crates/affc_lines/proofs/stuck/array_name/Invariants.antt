use Rattle.std.proofs.Common.{◌≡◌, ◌++◌, drop, slice_get}
use Rattle.affc_ast.specs.Meaning.{arrays_of}
use Rattle.affc_lines.proofs.stuck.array_name.Given as goal

abbrev pub invariant-loop-param : goal.invariant-loop-param
invariant-loop-param l =
    slice_get (arrays_of (drop l.param-index l.param-items) ++ l.program.temps) l.left ≡ slice_get (arrays_of l.program.params ++ l.program.temps) l.array
