use Rattle.affc_eliminate.proofs.project.Inputs.{AreFirst}
use Rattle.affc_eliminate.proofs.project.elimination.inputs.Given as goal

abbrev pub invariant-loop-number : goal.invariant-loop-number
invariant-loop-number l = AreFirst l.rows l.number l.live.items
