use Rattle.std.proofs.Common.{◌≡◌, ◌++◌, false, map, drop}
use Rattle.affc_ast.specs.Meaning.{arrays_of}
use Rattle.affc_schedtext.specs.Outline.{array_outline}
use Rattle.affc_schedtext.proofs.program.parameter_arrays.Given as goal

abbrev pub invariant-loop-param : goal.invariant-loop-param
invariant-loop-param l = l.arrays ++ map (array_outline false) (arrays_of (drop l.param-index l.params)) ≡ map (array_outline false) (arrays_of l.params)
