use Rattle.std.proofs.Common.{◌≤◌}
use Rattle.affc_ast.specs.declared.tree.Val.{size-Val}
use Rattle.affc_ast.proofs.tree.Val.+drop.Given as goal

abbrev pub decreases-drop : goal.decreases-drop
decreases-drop l = goal.size-drop l

abbrev pub invariant-loop-self : goal.invariant-loop-self
invariant-loop-self l = size-Val l.self ≤ size-Val l.fn.self
