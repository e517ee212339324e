use Rattle.std.proofs.Common.{◌+◌, ◌-◌, ◌*◌}
use Rattle.affc_ast.specs.Values.{value_of}
use Rattle.affc_interp.specs.Operands.{below, first_value}
use Rattle.affc_interp.proofs.value.+value.Given as goal

abbrev pub decreases-value : goal.decreases-value
decreases-value l = 4 * (value_of l.v.now).nodes

abbrev pub decreases-outwards : goal.decreases-outwards
decreases-outwards l = 4 * ((value_of l.v.now).nodes - (value_of (below first_value l.count l.v.now)).nodes)

abbrev pub decreases-outermost : goal.decreases-outermost
decreases-outermost l = 4 * ((value_of l.v.now).nodes - (value_of (first_value l.v.now)).nodes) - 1

abbrev pub decreases-second : goal.decreases-second
decreases-second l = 4 * (value_of l.right.now).nodes + 1
