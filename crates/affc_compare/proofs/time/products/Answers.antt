use Rattle.std.proofs.Common.{rules, ◌<◌, ◌^◌, ◌+ℤ◌, get_or, pos, to_z, FitsSigned, arith, ap, refl}
use Rattle.std.specs.Int.{w64, w128}
use Rattle.std.proofs.lemmas.Int.{to_z-of_z}
use Rattle.affc_rows.proofs.FormLemmas.{dot_step}
use Rattle.affc_compare.proofs.TimeLemmas.{sum_size, sum_fits, slight_at}
use Rattle.affc_compare.proofs.time.products.Goals as goal

pub loop-i-preserved : goal.loop-i-preserved
loop-i-preserved c =
    let fc : FitsSigned w128 (get_or c.args.coefs.now c.loop-i.i (pos 0)) = search rules in
    let fx : FitsSigned w64 (get_or c.args.point.now c.loop-i.i (pos 0)) = search rules in
    let fp : FitsSigned w128 c.product-sum.result = search rules in
    let value = simp to_z-of_z at c.product-sum.ensures.value in
    let size = sum_size (to_z w128 c.loop-i.sum-bits) c.product-sum.result c.loop-i.i (2 ^ 71) c.loop-i.invariant.size c.product-sum.ensures.size in
    let in_point : c.loop-i.i < 16 = omega arith in
    let fits : FitsSigned w128 ((to_z w128 c.loop-i.sum-bits) +ℤ c.product-sum.result) = sum_fits ((to_z w128 c.loop-i.sum-bits) +ℤ c.product-sum.result) c.loop-i.i size in_point in
    simp to_z-of_z (record {
      sum = dot_step c.loop-i.i c.args.coefs.now c.args.point.now (get_or c.args.point.now c.loop-i.i (pos 0)) ((to_z w128 c.loop-i.sum-bits) +ℤ c.product-sum.result) (to_z w128 c.loop-i.sum-bits) _ (omega arith) (omega arith) refl
          (ap (λ u. (to_z w128 c.loop-i.sum-bits) +ℤ u) value) c.loop-i.invariant.sum;
      size = size;
    })

pub product-sum-requires : goal.product-sum-requires
product-sum-requires c =
    let fc : FitsSigned w128 (get_or c.args.coefs.now c.loop-i.i (pos 0)) = search rules in
    simp to_z-of_z (slight_at c.args.coefs.now c.requires.slight c.loop-i.i)
