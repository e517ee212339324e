use Rattle.affc_eliminate.specs.Works.{IsCrossing}
use Rattle.affc_eliminate.proofs.elimination.cross_row.Given as goal

abbrev pub invariant-loop-j : goal.invariant-loop-j
invariant-loop-j g l = IsCrossing (g.F.Test.answers l.screen.test) l.task.rows.now l.task.column l.task.free l.i l.j l.work
