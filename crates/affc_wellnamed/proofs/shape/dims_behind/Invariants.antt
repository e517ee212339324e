use Rattle.std.proofs.Common.{◌≡◌, drop}
use Rattle.affc_wellnamed.specs.Shape.{dims_behind}
use Rattle.affc_wellnamed.proofs.shape.dims_behind.Given as goal

abbrev pub invariant-loop-e : goal.invariant-loop-e
invariant-loop-e l = dims_behind l.prelude l.all (drop l.e-index l.es) ≡ dims_behind l.prelude l.initial.all l.es
