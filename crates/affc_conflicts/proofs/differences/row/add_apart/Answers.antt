use Rattle.std.proofs.Common.{rules, ◌∙◌, ◌+ℤ◌, ◌*ℤ◌, pos, negsuc, ap, sym, refl}
use Rattle.std.specs.Prelude.{FitsSigned}
use Rattle.std.specs.Int.{w128}
use Rattle.std.proofs.lemmas.Int.{to_z-of_z}
use Rattle.affc_rows.specs.Forms.{Affine, mixed_form, value}
use Rattle.affc_conflicts.proofs.differences.Mixtures.{minus_is, plus_small, plus_value}
use Rattle.affc_conflicts.proofs.differences.InPlace.{put_is, constant_fits}
use Rattle.affc_conflicts.proofs.differences.row.add_apart.Goals as goal

pub returns-clause-small : goal.returns-clause-small
returns-clause-small c =
    let sum = c.args.sum.now in
    let x = c.args.x.now in
    let y = c.args.y.now in
    let d = mixed_form (pos 1) x (negsuc 0) y in
    let apart = minus_is c.args.columns x y d c.requires.x c.requires.y refl in
    let fc : FitsSigned w128 c.args.c = c.ranges.c in
    let fs : FitsSigned w128 c.sum.inside.constant = search rules in
    let fx : FitsSigned w128 c.x.inside.constant = search rules in
    let fy : FitsSigned w128 c.y.inside.constant = search rules in
    let ft : FitsSigned w128 c.times_apart.result = search rules in
    let e = simp to_z-of_z at c.add_coefs_apart.ensures in
    let t = simp to_z-of_z at c.times_apart.ensures.value in
    let fv : FitsSigned w128 (c.sum.inside.constant +ℤ c.times_apart.result) = constant_fits c.args.columns c.args.n sum c.sum.inside.constant c.times_apart.result c.requires.few c.requires.sum (ap (λ (u : Affine). u.constant) c.sum.view_is) c.times_apart.ensures.small in
    let is = put_is sum x y c.args.c c.sum.inside.coefs.items c.as_mut_slice.result.now c.as_slice.result.now c.as_slice-2.result.now c.add_coefs_apart.new.sum
    c.sum.inside.constant c.x.inside.constant c.y.inside.constant c.times_apart.result
    c.sum.view_is c.as_mut_slice.ensures.value (c.as_slice.ensures ∙ ap (λ (u : Affine). u.coefs) c.x.view_is) (c.as_slice-2.ensures ∙ ap (λ (u : Affine). u.coefs) c.y.view_is)
    (ap (λ (u : Affine). u.constant) c.x.view_is) (ap (λ (u : Affine). u.constant) c.y.view_is)
    (c.requires.x.width ∙ sym c.requires.sum.width) (c.requires.y.width ∙ sym c.requires.sum.width) e t in
    simp to_z-of_z (plus_small c.args.columns c.args.n sum d c.args.c c.requires.few c.requires.sum c.requires.c apart.width apart.coefs_fit apart.constant_fits _ is)

pub returns-clause-value : goal.returns-clause-value
returns-clause-value c =
    let sum = c.args.sum.now in
    let x = c.args.x.now in
    let y = c.args.y.now in
    let d = mixed_form (pos 1) x (negsuc 0) y in
    let apart = minus_is c.args.columns x y d c.requires.x c.requires.y refl in
    let fc : FitsSigned w128 c.args.c = c.ranges.c in
    let fs : FitsSigned w128 c.sum.inside.constant = search rules in
    let fx : FitsSigned w128 c.x.inside.constant = search rules in
    let fy : FitsSigned w128 c.y.inside.constant = search rules in
    let ft : FitsSigned w128 c.times_apart.result = search rules in
    let e = simp to_z-of_z at c.add_coefs_apart.ensures in
    let t = simp to_z-of_z at c.times_apart.ensures.value in
    let fv : FitsSigned w128 (c.sum.inside.constant +ℤ c.times_apart.result) = constant_fits c.args.columns c.args.n sum c.sum.inside.constant c.times_apart.result c.requires.few c.requires.sum (ap (λ (u : Affine). u.constant) c.sum.view_is) c.times_apart.ensures.small in
    let is = put_is sum x y c.args.c c.sum.inside.coefs.items c.as_mut_slice.result.now c.as_slice.result.now c.as_slice-2.result.now c.add_coefs_apart.new.sum
    c.sum.inside.constant c.x.inside.constant c.y.inside.constant c.times_apart.result
    c.sum.view_is c.as_mut_slice.ensures.value (c.as_slice.ensures ∙ ap (λ (u : Affine). u.coefs) c.x.view_is) (c.as_slice-2.ensures ∙ ap (λ (u : Affine). u.coefs) c.y.view_is)
    (ap (λ (u : Affine). u.constant) c.x.view_is) (ap (λ (u : Affine). u.constant) c.y.view_is)
    (c.requires.x.width ∙ sym c.requires.sum.width) (c.requires.y.width ∙ sym c.requires.sum.width) e t in
    simp to_z-of_z (λ z len. plus_value c.args.columns c.args.n sum d c.args.c c.requires.few c.requires.sum c.requires.c apart.width apart.coefs_fit apart.constant_fits _ is z len
    ∙ ap (λ u. value sum z +ℤ (c.args.c *ℤ u)) (apart.holds z len))
