use Rattle.std.proofs.Common.{◌+◌, ◌≤◌}
use Rattle.affc_farkas.specs.Measures.{drop_measure}
use Rattle.affc_farkas.proofs.proof.Proof.+drop.Given as goal

abbrev pub decreases-drop : goal.decreases-drop
decreases-drop l = drop_measure l.self

abbrev pub decreases-turn : goal.decreases-turn
decreases-turn l = drop_measure l.self + drop_measure l.high.value + 1

abbrev pub invariant-drop-loop-self : goal.invariant-drop-loop-self
invariant-drop-loop-self l = drop_measure l.self ≤ drop_measure l.fn.self

abbrev pub decreases-drop-loop-self : goal.decreases-drop-loop-self
decreases-drop-loop-self l = drop_measure l.self
