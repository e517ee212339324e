use Rattle.std.proofs.Common.{◌+◌, ◌-◌, length, drop}
use Rattle.affc_eliminate.proofs.Merges.{IsMerging}
use Rattle.affc_eliminate.proofs.weights.merged.Given as goal

abbrev pub invariant-loop-term : goal.invariant-loop-term
invariant-loop-term l = IsMerging l.s l.first l.t l.second (drop l.left l.first) (drop l.right l.second) l.sums.items

abbrev pub decreases-loop-term : goal.decreases-loop-term
decreases-loop-term l = (length l.first - l.left) + (length l.second - l.right)
