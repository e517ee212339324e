use Rattle.affc_eliminate.specs.Works.{IsCrossing}
use Rattle.affc_eliminate.proofs.elimination.cross.Given as goal

abbrev pub invariant-loop-i : goal.invariant-loop-i
invariant-loop-i g l = IsCrossing (g.F.Test.answers l.screen.test) l.task.rows.now l.task.column l.task.free l.i 0 l.work
