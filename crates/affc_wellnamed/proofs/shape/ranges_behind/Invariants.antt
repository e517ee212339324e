use Rattle.std.proofs.Common.{◌≡◌, drop}
use Rattle.affc_wellnamed.specs.Shape.{ranges_behind}
use Rattle.affc_wellnamed.proofs.shape.ranges_behind.Given as goal

abbrev pub invariant-loop-param : goal.invariant-loop-param
invariant-loop-param l = ranges_behind l.all (drop l.param-index l.params) ≡ ranges_behind l.initial.all l.params
