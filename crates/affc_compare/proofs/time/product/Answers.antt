use Rattle.std.proofs.Common.{rules, ◌≤◌, ◌*ℤ◌, ◌^◌, FitsSigned, lit<, arith, ap}
use Rattle.std.specs.Int.{w64, w128}
use Rattle.std.specs.Prelude.{unsigned_abs}
use Rattle.std.proofs.lemmas.Int.{ints, to_z-of_z, fits_signed_mul}
use Rattle.affc_compare.proofs.TimeLemmas.{small_product}
use Rattle.affc_compare.proofs.time.product.Goals as goal

pub overflow_mul-result : goal.overflow_mul-result
overflow_mul-result c =
    let fc : FitsSigned w128 c.args.c = c.ranges.c in
    let fx : FitsSigned w64 c.args.x = c.ranges.x in
    let fr : FitsSigned w128 c.from.result = search rules in
    let e = simp to_z-of_z at c.from.ensures in
    let size : unsigned_abs c.from.result ≤ 2 ^ 63 = omega (arith, ints, e) in
    simp to_z-of_z (fits_signed_mul w128 c.args.c c.from.result (256) (2 ^ 63) c.requires size (lit< tt))

pub returns-clause-value : goal.returns-clause-value
returns-clause-value c =
    let fc : FitsSigned w128 c.args.c = c.ranges.c in
    let fx : FitsSigned w64 c.args.x = c.ranges.x in
    let fr : FitsSigned w128 c.from.result = search rules in
    let e = simp to_z-of_z at c.from.ensures in
    let size : unsigned_abs c.from.result ≤ 2 ^ 63 = omega (arith, ints, e) in
    let fits : FitsSigned w128 (c.args.c *ℤ c.from.result) = fits_signed_mul w128 c.args.c c.from.result (256) (2 ^ 63) c.requires size (lit< tt) in
    simp to_z-of_z (ap (λ u. c.args.c *ℤ u) e)

pub returns-clause-size : goal.returns-clause-size
returns-clause-size c =
    let fc : FitsSigned w128 c.args.c = c.ranges.c in
    let fx : FitsSigned w64 c.args.x = c.ranges.x in
    let fr : FitsSigned w128 c.from.result = search rules in
    let e = simp to_z-of_z at c.from.ensures in
    let size : unsigned_abs c.from.result ≤ 2 ^ 63 = omega (arith, ints, e) in
    let fits : FitsSigned w128 (c.args.c *ℤ c.from.result) = fits_signed_mul w128 c.args.c c.from.result (256) (2 ^ 63) c.requires size (lit< tt) in
    simp to_z-of_z (small_product c.args.c c.from.result c.requires size)
