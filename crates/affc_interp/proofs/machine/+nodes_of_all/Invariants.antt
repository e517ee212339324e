use Rattle.std.proofs.Common.{◌≡◌, ◌+◌, ◌*◌, drop, map}
use Rattle.affc_interp.specs.Budget.{exec_of, nodes_among}
use Rattle.affc_interp.proofs.machine.+nodes_of_all.Given as goal

abbrev pub decreases-statement_nodes : goal.decreases-statement_nodes
decreases-statement_nodes l = 2 * (exec_of l.s.now).nodes

abbrev pub decreases-nodes_of_all : goal.decreases-nodes_of_all
decreases-nodes_of_all l = 2 * nodes_among (map exec_of l.body.now) + 1

abbrev pub invariant-nodes_of_all-loop-s : goal.invariant-nodes_of_all-loop-s
invariant-nodes_of_all-loop-s l = l.count + nodes_among (map exec_of (drop l.s-index l.body)) ≡ nodes_among (map exec_of l.body)
