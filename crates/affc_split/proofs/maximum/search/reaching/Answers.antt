use Rattle.std.specs.Prelude.{FitsSigned}
use Rattle.std.specs.Int.{w64}
use Rattle.std.proofs.lemmas.Int.{to_z-of_z}
use Rattle.affc_split.proofs.maximum.Bounds.{point_reaches, none_reaches}
use Rattle.affc_split.proofs.maximum.search.reaching.Goals as goal

pub returns-in-Point-clause-some : goal.returns-in-Point-clause-some
returns-in-Point-clause-some c =
    let f : FitsSigned w64 c.args.at = c.ranges.at in
    let e = simp to_z-of_z at c.in-Ok.ensures in
    point_reaches c.args.region.now c.args.form.now c.args.at c.in-Ok.system c.in_ok-point.field-0 c.in-Point.point e c.in-Point.is c.in_ok-point.ensures.point

pub returns-clause-none : goal.returns-clause-none
returns-clause-none c =
    let f : FitsSigned w64 c.args.at = c.ranges.at in
    let e = simp to_z-of_z at c.in-Ok.ensures in
    none_reaches c.args.region.now c.args.form.now c.args.at c.in-Ok.system c.in_ok-point.field-0 c.in-Empty._proof e c.in-Empty.is c.in_ok-point.ensures.none
