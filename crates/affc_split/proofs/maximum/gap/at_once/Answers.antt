use Rattle.std.proofs.Common.{arith}
use Rattle.std.specs.Prelude.{FitsSigned}
use Rattle.std.specs.Int.{w64}
use Rattle.std.proofs.lemmas.Int.{to_z-of_z, fits_signed_from_abs}
use Rattle.affc_split.proofs.maximum.Gaps.{none_above}
use Rattle.affc_split.proofs.maximum.gap.at_once.Goals as goal

pub returns-clause-answer : goal.returns-clause-answer
returns-clause-answer c =
    let a = c.args.objective.now in
    let q = c.requires.objective in
    let fl : FitsSigned w64 a.floor = fits_signed_from_abs w64 a.floor (let b = q.floor_near in omega arith) in
    let fc : FitsSigned w64 a.ceiling = fits_signed_from_abs w64 a.ceiling (let b = q.ceiling_near in omega arith) in
    let e = simp to_z-of_z at c.in_ok-system.ensures in
    let b = simp to_z-of_z at c.in_ok-ranges.ensures in
    none_above a.region.now a.form.now a.floor a.ceiling c.in_ok-system.system c.in_ok-ranges.ranges c.in_ok-point.field-0 c.in-Empty._proof e b c.in-Empty.is c.in_ok-point.ensures.none q.bounded
