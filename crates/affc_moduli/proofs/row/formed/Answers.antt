use Rattle.std.proofs.Common.{◌≤◌, ◌^◌, ℤ, sym, subst, arith}
use Rattle.std.specs.Prelude.{FitsSigned, unsigned_abs, Option, IfSome}
use Rattle.std.specs.Int.{w64}
use Rattle.std.proofs.lemmas.Int.{to_z-of_z, fits_signed_from_abs}
use Rattle.affc_rows.specs.Forms.{Affine}
use Rattle.affc_moduli.specs.Enough.{IsSuitable}
use Rattle.affc_moduli.proofs.Moved.{moved}
use Rattle.affc_moduli.proofs.row.formed.Goals as goal

pub chosen-requires-clause-need : goal.chosen-requires-clause-need
chosen-requires-clause-need c =
    let near = subst (λ (v : ℤ). unsigned_abs v ≤ 2 ^ 55) (sym c.constant_of-need.ensures) c.requires.done.limits.constant_fits in
    let f : FitsSigned w64 c.constant_of-need.result = fits_signed_from_abs w64 c.constant_of-need.result (omega (arith, near)) in
    simp to_z-of_z near

pub returns-in-Some-clause-done : goal.returns-in-Some-clause-done
returns-in-Some-clause-done c =
    let asked = c.args.asked.now in
    let near = subst (λ (v : ℤ). unsigned_abs v ≤ 2 ^ 55) (sym c.constant_of-need.ensures) c.requires.done.limits.constant_fits in
    let f : FitsSigned w64 c.constant_of-need.result = fits_signed_from_abs w64 c.constant_of-need.result (omega (arith, near)) in
    let suitable = simp to_z-of_z at c.in_ok-form.ensures.suitable in
    let suits = subst (λ (o : Option Affine). IfSome o (λ g. IsSuitable c.in-Ok.context asked.regions.now asked.line.fs.now asked.line.gs.now g c.constant_of-need.result)) c.in-Some.is suitable in
    moved asked.given.context.now asked.given.ranges.now asked.given.extents.now asked.given.rows.now asked.given.pairs.now c.requires.asked.given.ready asked.line.k asked.line.row.now c.requires.asked.line.there asked.regions.now c.requires.asked.slices
    c.in-Ok.context asked.line.fs.now asked.line.gs.now c.in-Some.form c.constant_of-need.result c.args.constant c.with_form.result c.in-Ok.ensures.system c.in-Ok.ensures.ranges
    c.requires.asked.line.fs_each c.requires.asked.line.gs_each c.requires.asked.line.forward c.requires.asked.line.backward suits c.requires.done c.requires.flat c.constant_of-need.ensures c.with_form.ensures.form c.with_form.ensures.mark
