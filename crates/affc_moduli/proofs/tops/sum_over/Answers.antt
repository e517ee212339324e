use Rattle.std.proofs.Common.{arith, rules, get_or, pos, true}
use Rattle.std.specs.Prelude.{FitsSigned}
use Rattle.std.specs.Int.{w128}
use Rattle.std.proofs.lemmas.Int.{to_z-of_z}
use Rattle.affc_system.proofs.BoxLemmas.{corner_step}
use Rattle.affc_moduli.proofs.tops.sum_over.Goals as goal

pub loop-i-preserved : goal.loop-i-preserved
loop-i-preserved c =
    let f : FitsSigned w128 (get_or c.args.coefs.now c.loop-i.i (pos 0)) = search rules in
    let fits : FitsSigned w128 c.with_column-sum.result = search rules in
    let begun : FitsSigned w128 c.args.constant = search rules in
    let value = simp to_z-of_z at c.with_column-sum.ensures.value in
    let before = simp to_z-of_z at c.loop-i.invariant.value in
    simp to_z-of_z (record {
      value = corner_step true c.loop-i.i c.args.coefs.now c.args.ranges.now _ _ _ (omega arith) (omega arith) value before;
      within = omega arith;
    })
