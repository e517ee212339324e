use Rattle.std.proofs.Common.{◌≡◌, ◌++◌, drop}
use Rattle.affc_schedtext.specs.Outline.{number_names}
use Rattle.affc_schedtext.proofs.program.number_names.Given as goal

abbrev pub invariant-loop-param : goal.invariant-loop-param
invariant-loop-param l = l.names ++ number_names (drop l.param-index l.params) ≡ number_names l.params
