use Rattle.std.proofs.Common.{arith, rules, get_or, pos, refl}
use Rattle.std.specs.Prelude.{FitsSigned}
use Rattle.std.specs.Int.{w64, w128}
use Rattle.std.proofs.lemmas.Int.{to_z-of_z}
use Rattle.affc_rows.proofs.FormLemmas.{dot_step}
use Rattle.affc_system.proofs.system.sum_at.Goals as goal

pub loop-i-preserved : goal.loop-i-preserved
loop-i-preserved c =
    let f : FitsSigned w128 (get_or c.args.coefs.now c.loop-i.i (pos 0)) = search rules in
    let g : FitsSigned w64 (get_or c.args.point.now c.loop-i.i (pos 0)) = search rules in
    let value = simp to_z-of_z at c.with_term-sum.ensures.value in
    record {
      value = dot_step c.loop-i.i c.args.coefs.now c.args.point.now _ _ _ _ (omega arith) (omega arith) refl value c.loop-i.invariant.value;
      magnitude = omega arith;
    }
