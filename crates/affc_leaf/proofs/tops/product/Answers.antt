use Rattle.std.proofs.Common.{arith, lit<, ◌^◌, ◌*ℤ◌, ap}
use Rattle.std.specs.Prelude.{FitsSigned, unsigned_abs, ◌≤◌}
use Rattle.std.specs.Int.{w64, w128}
use Rattle.std.proofs.lemmas.Int.{to_z-of_z, fits_signed_from_abs, fits_signed_mul, unsigned_abs-mul}
use Rattle.std.proofs.lemmas.Nat.{mul-le}
use Rattle.affc_leaf.proofs.tops.product.Goals as goal

pub overflow_mul-result : goal.overflow_mul-result
overflow_mul-result c =
    let fc : FitsSigned w128 c.args.c = c.ranges.c in
    let fx : FitsSigned w64 c.args.x = c.ranges.x in
    let e = simp to_z-of_z at c.from.ensures in
    let m : unsigned_abs c.from.result ≤ 2 ^ 60 = omega (arith, ap unsigned_abs e, c.requires.end) in
    let fr : FitsSigned w128 c.from.result = fits_signed_from_abs w128 _ (omega (arith, m)) in
    simp to_z-of_z (fits_signed_mul w128 c.args.c c.from.result (2 ^ 53) (2 ^ 60) c.requires.coefficient m (lit< tt))

pub returns-clause-value : goal.returns-clause-value
returns-clause-value c =
    let fc : FitsSigned w128 c.args.c = c.ranges.c in
    let fx : FitsSigned w64 c.args.x = c.ranges.x in
    let e = simp to_z-of_z at c.from.ensures in
    let m : unsigned_abs c.from.result ≤ 2 ^ 60 = omega (arith, ap unsigned_abs e, c.requires.end) in
    let fr : FitsSigned w128 c.from.result = fits_signed_from_abs w128 _ (omega (arith, m)) in
    let fits : FitsSigned w128 (c.args.c *ℤ c.from.result) = fits_signed_mul w128 c.args.c c.from.result (2 ^ 53) (2 ^ 60) c.requires.coefficient m (lit< tt) in
    simp to_z-of_z (ap (λ z. c.args.c *ℤ z) e)

pub returns-clause-small : goal.returns-clause-small
returns-clause-small c =
    let fc : FitsSigned w128 c.args.c = c.ranges.c in
    let fx : FitsSigned w64 c.args.x = c.ranges.x in
    let e = simp to_z-of_z at c.from.ensures in
    let m : unsigned_abs c.from.result ≤ 2 ^ 60 = omega (arith, ap unsigned_abs e, c.requires.end) in
    let fr : FitsSigned w128 c.from.result = fits_signed_from_abs w128 _ (omega (arith, m)) in
    let fits : FitsSigned w128 (c.args.c *ℤ c.from.result) = fits_signed_mul w128 c.args.c c.from.result (2 ^ 53) (2 ^ 60) c.requires.coefficient m (lit< tt) in
    simp to_z-of_z (omega (arith, unsigned_abs-mul c.args.c c.from.result, mul-le _ _ (2 ^ 53) (2 ^ 60) c.requires.coefficient m))
