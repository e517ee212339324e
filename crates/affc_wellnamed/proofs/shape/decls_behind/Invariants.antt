use Rattle.std.proofs.Common.{◌≡◌, drop}
use Rattle.affc_wellnamed.specs.Shape.{decls_behind}
use Rattle.affc_wellnamed.proofs.shape.decls_behind.Given as goal

abbrev pub invariant-loop-temp : goal.invariant-loop-temp
invariant-loop-temp l = decls_behind l.prelude l.all (drop l.temp-index l.temps) ≡ decls_behind l.prelude l.initial.all l.temps
