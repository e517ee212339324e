use Rattle.std.proofs.Common.{◌+◌, ◌-◌, ◌*◌}
use Rattle.affc_ast.specs.Index.{nodes_of_ix}
use Rattle.affc_interp.specs.Operands.{below, first_operand}
use Rattle.affc_interp.proofs.index.+eval.Given as goal

abbrev pub decreases-eval : goal.decreases-eval
decreases-eval l = 4 * nodes_of_ix l.e.now

abbrev pub decreases-outwards : goal.decreases-outwards
decreases-outwards l = 4 * (nodes_of_ix l.e.now - nodes_of_ix (below first_operand l.count l.e.now))

abbrev pub decreases-outermost : goal.decreases-outermost
decreases-outermost l = 4 * (nodes_of_ix l.e.now - nodes_of_ix (first_operand l.e.now)) - 1

abbrev pub decreases-second : goal.decreases-second
decreases-second l = 4 * nodes_of_ix l.b.now + 1
