use Rattle.std.proofs.Common.{◌+◌, ◌*◌, map}
use Rattle.affc_interp.specs.Budget.{exec_of, nodes_among}
use Rattle.affc_interp.proofs.Turns.{GoesOn}
use Rattle.affc_interp.proofs.machine.Machine.+exec.Given as goal

abbrev pub invariant-turn-loop-k : goal.invariant-turn-loop-k
invariant-turn-loop-k l = GoesOn l.node l.inner l.statement l.count l.first l.body l.fn.self l.k l.self

abbrev pub decreases-exec : goal.decreases-exec
decreases-exec l = 8 * (exec_of l.s.now).nodes

abbrev pub decreases-exec_for : goal.decreases-exec_for
decreases-exec_for l = 8 * nodes_among (map exec_of l.body.now) + 6

abbrev pub decreases-exec_if : goal.decreases-exec_if
decreases-exec_if l = 8 * (nodes_among (map exec_of l.body.now) + nodes_among (map exec_of l.other.now)) + 6

abbrev pub decreases-exec_block : goal.decreases-exec_block
decreases-exec_block l = 8 * nodes_among (map exec_of l.body.now) + 6

abbrev pub decreases-turn : goal.decreases-turn
decreases-turn l = 8 * nodes_among (map exec_of l.body.now) + 5

abbrev pub decreases-step_turn : goal.decreases-step_turn
decreases-step_turn l = 8 * nodes_among (map exec_of l.body.now) + 4

abbrev pub decreases-one_turn : goal.decreases-one_turn
decreases-one_turn l = 8 * nodes_among (map exec_of l.body.now) + 3

abbrev pub decreases-exec_all : goal.decreases-exec_all
decreases-exec_all l = 8 * nodes_among (map exec_of l.body.now) + 2
