use Rattle.std.specs.Prelude.{FitsSigned}
use Rattle.std.specs.Int.{w128}
use Rattle.std.proofs.lemmas.Int.{to_z-of_z}
use Rattle.std.proofs.lemmas.Result.{on_ok_weaker}
use Rattle.affc_leaf.specs.Leaves.{corner_row}
use Rattle.affc_leaf.proofs.Sums.{placed_same}
use Rattle.affc_leaf.proofs.leaves.put_corner.Goals as goal

pub returns : goal.returns
returns c =
    let f : FitsSigned w128 c.args.c = c.ranges.c in
    let row = simp to_z-of_z at c.in-Some.ensures.some in
    on_ok_weaker c.put_pair.result
    (λ h. placed_same c.args.pairs.now.items c.put_pair.new.pairs.items h.0 (c.in-Some.row, c.in-Some.times) (corner_row c.args.c c.args.bound) h.1 row)
    c.put_pair.ensures
