use Rattle.std.proofs.Common.{rules}
use Rattle.std.specs.Prelude.{FitsSigned}
use Rattle.std.specs.Int.{w128}
use Rattle.std.proofs.lemmas.Int.{to_z-of_z}
use Rattle.affc_leaf.proofs.Checked.{some_value, sum_is}
use Rattle.affc_leaf.proofs.leaves.added.Goals as goal

pub returns : goal.returns
returns c =
    let fs : FitsSigned w128 c.args.sum = c.ranges.sum in
    let fk : FitsSigned w128 c.args.number = c.ranges.number in
    let ft : FitsSigned w128 c.args.times = c.ranges.times in
    let fp : FitsSigned w128 c.in_ok-product.product = search rules in
    let p = simp to_z-of_z at c.in_ok-product.ensures.1 in
    let s = simp to_z-of_z at c.checked_add.ensures in
    some_value c.checked_add.result _ _ _ s (sum_is c.args.sum c.args.times c.args.number c.in_ok-product.product p)
