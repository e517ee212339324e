use Rattle.std.proofs.Common.{◌≡◌, ◌+◌, ◌≤◌}
use Rattle.affc_ast.specs.declared.tree.Val.{size-Val}
use Rattle.affc_ast.specs.Values.{value_of}
use Rattle.affc_interp.proofs.value.+load_count.Given as goal

abbrev pub decreases-load_count : goal.decreases-load_count
decreases-load_count l = goal.size-load_count l

abbrev pub invariant-loop-here : goal.invariant-loop-here
invariant-loop-here l = (l.count + (value_of l.here).loads ≡ (value_of l.fn.v).loads) × (size-Val l.here ≤ size-Val l.fn.v)
