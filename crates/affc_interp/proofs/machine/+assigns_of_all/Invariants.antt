use Rattle.std.proofs.Common.{◌≡◌, ◌+◌, ◌*◌, drop, map}
use Rattle.affc_interp.specs.Budget.{exec_of, nodes_among, assigns_among}
use Rattle.affc_interp.proofs.machine.+assigns_of_all.Given as goal

abbrev pub decreases-assign_count : goal.decreases-assign_count
decreases-assign_count l = 2 * (exec_of l.s.now).nodes

abbrev pub decreases-assigns_of_all : goal.decreases-assigns_of_all
decreases-assigns_of_all l = 2 * nodes_among (map exec_of l.body.now) + 1

abbrev pub invariant-assigns_of_all-loop-s : goal.invariant-assigns_of_all-loop-s
invariant-assigns_of_all-loop-s l = l.count + assigns_among (map exec_of (drop l.s-index l.body)) ≡ assigns_among (map exec_of l.body)
