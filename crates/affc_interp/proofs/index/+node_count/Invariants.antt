use Rattle.std.proofs.Common.{◌≡◌, ◌+◌, ◌*◌}
use Rattle.affc_ast.specs.Index.{nodes_of_ix}
use Rattle.affc_interp.specs.Steps.{right_nodes}
use Rattle.affc_interp.proofs.index.+node_count.Given as goal

abbrev pub decreases-node_count : goal.decreases-node_count
decreases-node_count l = 2 * nodes_of_ix l.e.now

abbrev pub decreases-right_count : goal.decreases-right_count
decreases-right_count l = 2 * right_nodes l.step + 1

abbrev pub invariant-node_count-loop-a : goal.invariant-node_count-loop-a
invariant-node_count-loop-a l = l.count + nodes_of_ix l.here ≡ nodes_of_ix l.fn.e

abbrev pub decreases-node_count-loop-a : goal.decreases-node_count-loop-a
decreases-node_count-loop-a l = nodes_of_ix l.here
