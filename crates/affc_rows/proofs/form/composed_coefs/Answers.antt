use Rattle.std.proofs.Common.{rules, ◌∙◌, ◌++◌, ◌∷◌, [], ap}
use Rattle.std.specs.Prelude.{FitsSigned}
use Rattle.std.specs.Int.{w128}
use Rattle.std.proofs.lemmas.Int.{to_z-of_z}
use Rattle.affc_rows.proofs.FormLemmas.{composed-step, composed_magnitudes-step, made_step, fit_back, wide_back}
use Rattle.affc_rows.proofs.form.composed_coefs.Goals as goal

pub loop-column-preserved : goal.loop-column-preserved
loop-column-preserved c =
    let column = c.loop-column.column in
    let d = composed-step c.args.coefs.now c.args.images.now c.loop-column.column c.args.columns c.loop-column-test.true in
    let e = composed_magnitudes-step c.args.coefs.now c.args.images.now c.loop-column.column c.args.columns c.loop-column-test.true in
    let fm : FitsSigned w128 c.in-Ok.sum = search rules in
    let pushed = simp to_z-of_z at c.in-Ok-push.ensures.ok in
    let entry_is = pushed ∙ ap (λ z. c.loop-column.made.items ++ z ∷ []) c.in-Ok.ensures.value in
    record {
      made = made_step _ _ _ _ _ _ entry_is d c.loop-column.invariant.made;
      fits = λ r. c.loop-column.invariant.fits (fit_back _ _ _ e c.in-Ok.ensures.fits r);
      wide = λ w. c.loop-column.invariant.wide (wide_back _ _ _ e w);
    }
