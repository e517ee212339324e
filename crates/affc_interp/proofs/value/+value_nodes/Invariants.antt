use Rattle.std.proofs.Common.{◌≡◌, ◌+◌, ◌≤◌}
use Rattle.affc_ast.specs.declared.tree.Val.{size-Val}
use Rattle.affc_ast.specs.Values.{value_of}
use Rattle.affc_interp.proofs.value.+value_nodes.Given as goal

abbrev pub decreases-value_nodes : goal.decreases-value_nodes
decreases-value_nodes l = goal.size-value_nodes l

abbrev pub invariant-loop-here : goal.invariant-loop-here
invariant-loop-here l = (l.count + (value_of l.here).nodes ≡ (value_of l.fn.v).nodes) × (size-Val l.here ≤ size-Val l.fn.v)
