use Rattle.std.proofs.Common.{◌≡◌, ◌+◌, ◌*◌, ◌++◌, drop}
use Rattle.affc_leaf.specs.Parts.{box_bounds}
use Rattle.affc_split.proofs.decision.bounds_of.Given as goal

abbrev pub invariant-loop-j : goal.invariant-loop-j
invariant-loop-j l = l.bounds.items ++ box_bounds (l.rows + 2 * l.j) (drop l.j l.ranges) ≡ box_bounds l.rows l.ranges
