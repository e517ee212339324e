use Rattle.affc_eliminate.specs.Works.{IsReplacing}
use Rattle.affc_eliminate.proofs.elimination.replace.Given as goal

abbrev pub invariant-loop-i : goal.invariant-loop-i
invariant-loop-i g l = IsReplacing (g.F.Test.answers l.screen.test) l.task.rows.now l.task.column l.task.free l.two.positive l.two.negative l.i l.work
