use Rattle.std.proofs.Common.{arith, rules, ◌∙◌, get_or, pos, ap, ◌++◌, ◌∷◌, []}
use Rattle.std.specs.Prelude.{FitsSigned}
use Rattle.std.specs.Int.{w128}
use Rattle.std.proofs.lemmas.Int.{to_z-of_z}
use Rattle.affc_rows.proofs.FormLemmas.{mixed-drop, mixed_magnitudes-drop, made_step, fit_back, wide_back, wide_here}
use Rattle.affc_rows.proofs.form.mixed_coefs.Goals as goal

pub loop-i-preserved : goal.loop-i-preserved
loop-i-preserved c =
    let fs : FitsSigned w128 c.args.s = c.ranges.s in
    let ft : FitsSigned w128 c.args.t = c.ranges.t in
    let f : FitsSigned w128 (get_or c.args.first.now c.loop-i.i (pos 0)) = search rules in
    let g : FitsSigned w128 (get_or c.args.second.now c.loop-i.i (pos 0)) = search rules in
    let inv = simp to_z-of_z at c.loop-i.invariant in
    let v = simp to_z-of_z at c.in-Ok.ensures.value in
    let fit = simp to_z-of_z at c.in-Ok.ensures.fits in
    let fm : FitsSigned w128 c.in-Ok.made = search rules in
    let pushed = simp to_z-of_z at c.in-Ok-push.ensures.ok in
    let d = mixed-drop c.loop-i.i c.args.s c.args.first.now c.args.t c.args.second.now (omega arith) (omega arith) in
    let e = mixed_magnitudes-drop c.loop-i.i c.args.s c.args.first.now c.args.t c.args.second.now (omega arith) (omega arith) in
    let entry_is = pushed ∙ ap (λ z. c.loop-i.coefs.items ++ z ∷ []) v in
    simp to_z-of_z (record {
      made = made_step _ _ _ _ _ _ entry_is d inv.made;
      fits = λ r. inv.fits (fit_back _ _ _ e fit r);
      wide = λ w. inv.wide (wide_back _ _ _ e w);
    })

pub returns-in_default-clause-range : goal.returns-in_default-clause-range
returns-in_default-clause-range c =
    let fs : FitsSigned w128 c.args.s = c.ranges.s in
    let ft : FitsSigned w128 c.args.t = c.ranges.t in
    let f : FitsSigned w128 (get_or c.args.first.now c.loop-i.i (pos 0)) = search rules in
    let g : FitsSigned w128 (get_or c.args.second.now c.loop-i.i (pos 0)) = search rules in
    let inv = simp to_z-of_z at c.loop-i.invariant in
    let past = simp to_z-of_z at c.in_default.ensures.range in
    let e = mixed_magnitudes-drop c.loop-i.i c.args.s c.args.first.now c.args.t c.args.second.now (omega arith) (omega arith) in
    λ _. inv.wide (wide_here _ _ _ e past)
