use Rattle.std.proofs.Common.{arith, rules, ◌∙◌, ap, get_or, pos}
use Rattle.std.specs.Prelude.{FitsSigned}
use Rattle.std.specs.Int.{w128}
use Rattle.std.proofs.lemmas.Int.{to_z-of_z}
use Rattle.affc_rows.specs.Forms.{constants_of}
use Rattle.affc_rows.proofs.FormLemmas.{dot_step, dot_magnitude_step, dot_magnitude_past, constants_of-at, length-constants_of}
use Rattle.affc_rows.proofs.form.constant_sum.Goals as goal

pub returns-in_default-clause-range : goal.returns-in_default-clause-range
returns-in_default-clause-range c =
    let f : FitsSigned w128 (get_or c.args.coefs.now c.loop-i.i (pos 0)) = search rules in
    let g : FitsSigned w128 c.image.inside.constant = search rules in
    let past = simp to_z-of_z at c.in_default.ensures.range in
    let at = constants_of-at c.loop-i.i c.args.images.now c.index-images-i.result (omega arith) c.index-images-i.is in
    let read = ap (λ v. v.constant) c.image.view_is ∙ at in
    dot_magnitude_past _ c.loop-i.i c.args.coefs.now (constants_of c.args.images.now) _ _ _
    (omega arith) (omega (arith, length-constants_of c.args.images.now)) read past c.loop-i.invariant.weight

pub loop-i-preserved : goal.loop-i-preserved
loop-i-preserved c =
    let f : FitsSigned w128 (get_or c.args.coefs.now c.loop-i.i (pos 0)) = search rules in
    let g : FitsSigned w128 c.image.inside.constant = search rules in
    let value = simp to_z-of_z at c.in-Ok.ensures.value in
    let weight = simp to_z-of_z at c.in-Ok.ensures.magnitude in
    let at = constants_of-at c.loop-i.i c.args.images.now c.index-images-i.result (omega arith) c.index-images-i.is in
    let read = ap (λ v. v.constant) c.image.view_is ∙ at in
    let constants = constants_of c.args.images.now in
    let long = length-constants_of c.args.images.now in
    record {
      sum = dot_step c.loop-i.i c.args.coefs.now constants _ _ _ _ (omega arith) (omega (arith, long)) read value c.loop-i.invariant.sum;
      weight = dot_magnitude_step c.loop-i.i c.args.coefs.now constants _ _ _ _ (omega arith) (omega (arith, long)) read weight c.loop-i.invariant.weight;
    }
