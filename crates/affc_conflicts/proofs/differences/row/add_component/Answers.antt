use Rattle.std.proofs.Common.{◌≡◌, ◌-ℤ◌, pos, ap, to_z}
use Rattle.std.specs.Prelude.{FitsSigned}
use Rattle.std.specs.Int.{w128}
use Rattle.std.proofs.lemmas.Int.{to_z-of_z}
use Rattle.affc_rows.specs.Forms.{value}
use Rattle.affc_conflicts.proofs.differences.InPlace.{none_more}
use Rattle.affc_conflicts.proofs.differences.row.add_component.Goals as goal

pub returns-else-c-ne0-clause-value : goal.returns-else-c-ne0-clause-value
returns-else-c-ne0-clause-value c =
    let fc : FitsSigned w128 c.args.c = c.ranges.c in
    let e : c.args.c ≡ pos 0 = simp to_z-of_z at (ap (to_z w128) c.if-c-ne0.false) in
    λ z len. none_more c.args.c (value c.args.sum.now z) (value c.args.x.now z -ℤ value c.args.y.now z) e
