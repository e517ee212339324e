use Rattle.std.proofs.Common.{◌≤◌}
use Rattle.affc_ast.specs.declared.tree.Ix.{size-Ix}
use Rattle.affc_ast.proofs.tree.Ix.+drop.Given as goal

abbrev pub decreases-drop : goal.decreases-drop
decreases-drop l = goal.size-drop l

abbrev pub invariant-loop-self : goal.invariant-loop-self
invariant-loop-self l = size-Ix l.self ≤ size-Ix l.fn.self
