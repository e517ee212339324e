use Rattle.std.proofs.Common.{◌-ℤ◌, ◌*ℤ◌, ◌^◌, FitsSigned, lit<}
use Rattle.std.specs.Int.{w128}
use Rattle.std.proofs.lemmas.Int.{to_z-of_z, fits_signed_mul}
use Rattle.affc_conflicts.proofs.differences.InPlace.{apart_abs, apart_fits, apart_is, times_small}
use Rattle.affc_conflicts.proofs.differences.row.times_apart.Goals as goal

pub returns-clause-value : goal.returns-clause-value
returns-clause-value c =
    let fc : FitsSigned w128 c.args.c = c.ranges.c in
    let fx : FitsSigned w128 c.args.x = c.ranges.x in
    let fy : FitsSigned w128 c.args.y = c.ranges.y in
    let size = apart_abs c.args.x c.args.y c.requires.x c.requires.y in
    let fd : FitsSigned w128 (c.args.x -ℤ c.args.y) = apart_fits (c.args.x -ℤ c.args.y) size in
    let fp : FitsSigned w128 (c.args.c *ℤ (c.args.x -ℤ c.args.y)) = fits_signed_mul w128 c.args.c (c.args.x -ℤ c.args.y) 256 (2 ^ 25) c.requires.c size (lit< tt) in
    simp to_z-of_z (apart_is c.args.c c.args.x c.args.y)

pub returns-clause-small : goal.returns-clause-small
returns-clause-small c =
    let fc : FitsSigned w128 c.args.c = c.ranges.c in
    let fx : FitsSigned w128 c.args.x = c.ranges.x in
    let fy : FitsSigned w128 c.args.y = c.ranges.y in
    let size = apart_abs c.args.x c.args.y c.requires.x c.requires.y in
    let fd : FitsSigned w128 (c.args.x -ℤ c.args.y) = apart_fits (c.args.x -ℤ c.args.y) size in
    let fp : FitsSigned w128 (c.args.c *ℤ (c.args.x -ℤ c.args.y)) = fits_signed_mul w128 c.args.c (c.args.x -ℤ c.args.y) 256 (2 ^ 25) c.requires.c size (lit< tt) in
    simp to_z-of_z (times_small c.args.c (c.args.x -ℤ c.args.y) c.requires.c size)
