use Rattle.std.proofs.Common.{◌≡◌, ◌++◌, take, drop, pos}
use Rattle.affc_rows.specs.Forms.{mixed}
use Rattle.affc_leaf.proofs.leaves.add_multiple.Given as goal

abbrev pub invariant-loop-i : goal.invariant-loop-i
invariant-loop-i l = take l.i l.sum ++ mixed l.times (drop l.i l.row) (pos 1) (drop l.i l.sum) ≡ mixed l.times l.row (pos 1) l.fn.sum
