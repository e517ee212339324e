use Rattle.std.proofs.Common.{rules, ◌≡◌, ap}
use Rattle.std.specs.Prelude.{FitsSigned}
use Rattle.std.specs.Int.{w128}
use Rattle.std.proofs.lemmas.Int.{to_z-of_z}
use Rattle.affc_rows.specs.Forms.{Affine}
use Rattle.affc_leaf.proofs.Scaled.{scaled_sum}
use Rattle.affc_leaf.proofs.vertices.scaled.Goals as goal

pub returns : goal.returns
returns c =
    let row = c.args.row.now in
    let v = c.in-Ok.value in
    let t = c.in_ok-total.total in
    let fd : FitsSigned w128 c.args.d = c.ranges.d in
    let fk : FitsSigned w128 c.row.inside.constant = search rules in
    let fv : FitsSigned w128 v = search rules in
    let ft : FitsSigned w128 t = search rules in
    let e = c.in-Ok.ensures.value in
    let g = simp to_z-of_z at c.in_ok-total.ensures in
    let k : c.row.inside.constant ≡ row.constant = ap (λ (r : Affine). r.constant) c.row.view_is in
    simp to_z-of_z (scaled_sum row c.args.x.now c.args.d v c.row.inside.constant t k e g)
