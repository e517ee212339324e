use Rattle.std.proofs.Common.{◌≡◌, drop}
use Rattle.affc_wellnamed.specs.Shape.{params_behind}
use Rattle.affc_wellnamed.proofs.shape.params_behind.Given as goal

abbrev pub invariant-loop-param : goal.invariant-loop-param
invariant-loop-param l = params_behind l.prelude l.all (drop l.param-index l.params) ≡ params_behind l.prelude l.initial.all l.params
