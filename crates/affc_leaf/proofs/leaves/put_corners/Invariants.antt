use Rattle.std.proofs.Common.{◌++◌, drop}
use Rattle.affc_leaf.specs.Leaves.{corner_rows, SameSum}
use Rattle.affc_leaf.proofs.leaves.put_corners.Given as goal

abbrev pub invariant-loop-i : goal.invariant-loop-i
invariant-loop-i l = SameSum (l.pairs.items ++ corner_rows (drop l.i l.coefs) (drop l.i l.bounds)) (l.fn.pairs.items ++ corner_rows l.coefs l.bounds)
