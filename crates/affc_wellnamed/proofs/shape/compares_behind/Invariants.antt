use Rattle.std.proofs.Common.{◌≡◌, drop}
use Rattle.affc_wellnamed.specs.Shape.{compares_behind}
use Rattle.affc_wellnamed.proofs.shape.compares_behind.Given as goal

abbrev pub invariant-loop-c : goal.invariant-loop-c
invariant-loop-c l = compares_behind l.prelude l.all (drop l.c-index l.cs) ≡ compares_behind l.prelude l.initial.all l.cs
