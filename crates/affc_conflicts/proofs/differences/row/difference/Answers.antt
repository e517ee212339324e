use Rattle.std.proofs.Common.{arith, rules, get_or, pos}
use Rattle.std.specs.Prelude.{FitsSigned}
use Rattle.std.specs.Int.{w128}
use Rattle.std.proofs.lemmas.Int.{to_z-of_z}
use Rattle.affc_rows.specs.Forms.{value}
use Rattle.affc_conflicts.proofs.differences.Mixtures.{apart_step}
use Rattle.affc_conflicts.proofs.differences.row.difference.Goals as goal

pub loop-i-preserved : goal.loop-i-preserved
loop-i-preserved c =
    let f : FitsSigned w128 (get_or c.args.coefs.now c.loop-i.i (pos 0)) = search rules in
    let e = simp to_z-of_z at c.add_component.ensures.value in
    record {
      small = c.add_component.ensures.small;
      value = λ z len.
          apart_step c.loop-i.i c.args.coefs.now c.args.x.now c.args.y.now c.index-x-i.result c.index-y-i.result z (value c.add_component.new.sum z) (value c.loop-i.sum z) _ (omega arith) (omega arith) (omega arith)
          c.index-x-i.is c.index-y-i.is (e z len) (c.loop-i.invariant.value z len);
    }
