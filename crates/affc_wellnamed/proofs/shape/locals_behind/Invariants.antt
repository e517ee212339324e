use Rattle.std.proofs.Common.{◌≡◌, true, drop}
use Rattle.affc_wellnamed.specs.Shape.{locals_behind}
use Rattle.affc_wellnamed.proofs.shape.locals_behind.Given as goal

abbrev pub invariant-loop-local : goal.invariant-loop-local
invariant-loop-local l = locals_behind true l.all (drop l.local-index l.locals) ≡ locals_behind true l.initial.all l.locals
