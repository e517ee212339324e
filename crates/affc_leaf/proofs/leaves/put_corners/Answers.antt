use Rattle.std.proofs.Common.{arith, rules, ◌+◌, ◌++◌, get_or, drop, pos, subst}
use Rattle.std.specs.Prelude.{FitsSigned}
use Rattle.std.specs.Int.{w128}
use Rattle.std.proofs.lemmas.Int.{to_z-of_z}
use Rattle.affc_leaf.specs.Bounds.{bound_at}
use Rattle.affc_leaf.specs.Leaves.{corner_row, corner_rows, SameSum}
use Rattle.affc_leaf.proofs.Sums.{same_trans}
use Rattle.affc_leaf.proofs.Corners.{corner-drop}
use Rattle.affc_leaf.proofs.leaves.put_corners.Goals as goal

pub loop-i-preserved : goal.loop-i-preserved
loop-i-preserved c =
    let f : FitsSigned w128 (get_or c.args.coefs.now c.loop-i.i (pos 0)) = search rules in
    let rest = corner_rows (drop (c.loop-i.i + 1) c.args.coefs.now) (drop (c.loop-i.i + 1) c.args.bounds.now) in
    let whole = c.args.pairs.now.items ++ corner_rows c.args.coefs.now c.args.bounds.now in
    let width = c.requires.width in
    let d = corner-drop c.loop-i.i c.args.coefs.now c.args.bounds.now (omega arith) (omega arith) in
    let s = simp to_z-of_z at (c.in_ok-put_corner.ensures rest) in
    same_trans (c.put_corner.new.pairs.items ++ rest) (c.loop-i.pairs.items ++ (corner_row (get_or c.args.coefs.now c.loop-i.i (pos 0)) (bound_at c.args.bounds.now c.loop-i.i) ++ rest)) whole s
    (subst (λ l. SameSum (c.loop-i.pairs.items ++ l) whole) d c.loop-i.invariant)
