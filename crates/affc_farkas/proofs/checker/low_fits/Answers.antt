use Rattle.std.proofs.Common.{sym, subst, true}
use Rattle.std.specs.Prelude.{FitsSigned}
use Rattle.std.specs.Int.{w128}
use Rattle.std.proofs.lemmas.Int.{to_z-of_z}
use Rattle.affc_system.specs.Systems.{IsRow}
use Rattle.affc_farkas.specs.Chain.{frame_row}
use Rattle.affc_farkas.proofs.Entries.{negated_row, plain_row}
use Rattle.affc_farkas.proofs.checker.low_fits.Goals as goal

pub returns : goal.returns
returns c =
    let f : FitsSigned w128 c.args.below = c.ranges.below in
    let e = simp to_z-of_z at c.frame_fits.ensures in
    let r = c.requires in (
      (λ t. subst (λ z. IsRow c.args.system.now.columns (frame_row c.args.form.now true z)) r (negated_row c.args.system.now.columns c.args.form.now c.args.below (e.0 t))),
      (λ h. e.1 (plain_row c.args.system.now.columns c.args.form.now c.args.below (subst (λ z. IsRow c.args.system.now.columns (frame_row c.args.form.now true z)) (sym r) h))),
    )
