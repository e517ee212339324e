use Rattle.std.proofs.Common.{arith, rules, ◌≤◌, ◌^◌, ◌+ℤ◌, ◌+◌, ◌*◌, get_or, pos, ap}
use Rattle.std.specs.Prelude.{unsigned_abs, FitsSigned}
use Rattle.std.specs.Int.{w128}
use Rattle.std.proofs.lemmas.Int.{to_z-of_z, fits_signed_from_abs}
use mir.Val.{to_z}
use Rattle.affc_rows.proofs.IntLemmas.{abs-add}
use Rattle.affc_rows.proofs.FormLemmas.{sum_step}
use Rattle.affc_leaf.proofs.Greatest.{top-drop}
use Rattle.affc_leaf.proofs.tops.top_products.Goals as goal

pub loop-i-preserved : goal.loop-i-preserved
loop-i-preserved c =
    let fp : FitsSigned w128 c.top_product-part.result = fits_signed_from_abs w128 _ (omega (arith, c.top_product-part.ensures.small)) in
    let fc : FitsSigned w128 (get_or c.args.coefs.now c.loop-i.i (pos 0)) = search rules in
    let few = c.requires.few in
    let a = abs-add (to_z w128 c.loop-i.sum-bits) c.top_product-part.result in
    let inv = c.loop-i.invariant in
    let v = simp to_z-of_z at c.top_product-part.ensures.value in
    let d = top-drop c.loop-i.i c.args.coefs.now c.args.bounds.now (omega arith) (omega arith) in
    let bound : unsigned_abs (to_z w128 c.loop-i.sum-bits +ℤ c.top_product-part.result) ≤ (c.loop-i.i + 1) * 2 ^ 113 = omega (arith, a, inv.small, c.top_product-part.ensures.small) in
    let fits : FitsSigned w128 (to_z w128 c.loop-i.sum-bits +ℤ c.top_product-part.result) = fits_signed_from_abs w128 _ (omega (arith, bound, few, c.loop-i-test.true)) in
    simp to_z-of_z (record { made = sum_step _ _ _ _ _ _ (ap (λ z. to_z w128 c.loop-i.sum-bits +ℤ z) v) d inv.made; small = bound })
