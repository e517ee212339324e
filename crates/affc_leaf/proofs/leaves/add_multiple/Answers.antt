use Rattle.std.proofs.Common.{arith, rules, ◌∙◌, get_or, pos, length, ◌<◌}
use Rattle.std.specs.Prelude.{FitsSigned}
use Rattle.std.specs.Int.{w128}
use Rattle.std.proofs.lemmas.Int.{to_z-of_z}
use Rattle.affc_leaf.proofs.Adding.{add_step}
use Rattle.affc_leaf.proofs.leaves.add_multiple.Goals as goal

pub loop-i-preserved : goal.loop-i-preserved
loop-i-preserved c =
    let i = c.loop-i.i in
    let row = c.args.row.now in
    let sum = c.loop-i.sum in
    let ft : FitsSigned w128 c.args.times = c.ranges.times in
    let fr : FitsSigned w128 (get_or row i (pos 0)) = search rules in
    let fs : FitsSigned w128 (get_or sum i (pos 0)) = search rules in
    let fn : FitsSigned w128 c.in-Some.next = search rules in
    let inv = simp to_z-of_z at c.loop-i.invariant in
    let e = simp to_z-of_z at c.in-Some.ensures in
    let here : i < length row = omega arith in
    let there : i < length sum = omega (arith, c.loop-i.auto.sum, c.requires) in
    simp to_z-of_z (add_step c.args.times row sum i c.in-Some.next here there e ∙ inv)
