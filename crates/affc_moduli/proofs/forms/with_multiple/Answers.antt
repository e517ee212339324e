use Rattle.std.proofs.Common.{◌∙◌, length, pos, ap}
use Rattle.std.specs.Prelude.{FitsSigned}
use Rattle.std.specs.Int.{w128}
use Rattle.std.proofs.lemmas.Int.{to_z-of_z}
use Rattle.affc_rows.specs.Forms.{Affine}
use Rattle.affc_rows.proofs.ValueLemmas.{length-mixed}
use Rattle.affc_moduli.proofs.forms.with_multiple.Goals as goal

pub returns-in-Ok : goal.returns-in-Ok
returns-in-Ok c =
    let f : FitsSigned w128 c.args.times = c.ranges.times in
    let e = simp to_z-of_z at c.in-Ok.ensures.ok in
    ap (λ (g : Affine). length g.coefs) e ∙ length-mixed (pos 1) c.args.sum.now.coefs c.args.times c.args.extent.now.coefs c.requires
