use Rattle.std.proofs.Common.{arith, rules, ◌+ℤ◌, ◌*ℤ◌, ap}
use Rattle.std.specs.Prelude.{FitsSigned}
use Rattle.std.specs.Int.{w64, w128}
use Rattle.std.proofs.lemmas.Int.{to_z-of_z, fits_signed_from_abs}
use Rattle.affc_system.proofs.BoxLemmas.{product_within, sum_within}
use Rattle.affc_system.proofs.boxes.plus_product.Goals as goal

pub overflow_mul-result : goal.overflow_mul-result
overflow_mul-result c =
    let fc : FitsSigned w128 c.args.c = c.ranges.c in
    let fx : FitsSigned w64 c.args.x = c.ranges.x in
    let fs : FitsSigned w128 c.args.sum = c.ranges.sum in
    let same = simp to_z-of_z at c.from.ensures in
    let fr : FitsSigned w128 c.from.result = search rules in
    let small = product_within c.args.c c.args.x c.from.result c.args.reach same c.requires.within in
    simp to_z-of_z (fits_signed_from_abs w128 _ (omega arith))

pub overflow_add-result : goal.overflow_add-result
overflow_add-result c =
    let fc : FitsSigned w128 c.args.c = c.ranges.c in
    let fx : FitsSigned w64 c.args.x = c.ranges.x in
    let fs : FitsSigned w128 c.args.sum = c.ranges.sum in
    let same = simp to_z-of_z at c.from.ensures in
    let fr : FitsSigned w128 c.from.result = search rules in
    let small = product_within c.args.c c.args.x c.from.result c.args.reach same c.requires.within in
    let product : FitsSigned w128 (c.args.c *ℤ c.from.result) = fits_signed_from_abs w128 _ (omega arith) in
    let within = sum_within c.args.sum (c.args.c *ℤ c.from.result) _ small in
    let total : FitsSigned w128 (c.args.sum +ℤ (c.args.c *ℤ c.from.result)) = fits_signed_from_abs w128 _ (omega arith) in
    simp to_z-of_z total

pub returns-clause-value : goal.returns-clause-value
returns-clause-value c =
    let fc : FitsSigned w128 c.args.c = c.ranges.c in
    let fx : FitsSigned w64 c.args.x = c.ranges.x in
    let fs : FitsSigned w128 c.args.sum = c.ranges.sum in
    let same = simp to_z-of_z at c.from.ensures in
    let fr : FitsSigned w128 c.from.result = search rules in
    let small = product_within c.args.c c.args.x c.from.result c.args.reach same c.requires.within in
    let product : FitsSigned w128 (c.args.c *ℤ c.from.result) = fits_signed_from_abs w128 _ (omega arith) in
    let within = sum_within c.args.sum (c.args.c *ℤ c.from.result) _ small in
    let total : FitsSigned w128 (c.args.sum +ℤ (c.args.c *ℤ c.from.result)) = fits_signed_from_abs w128 _ (omega arith) in
    simp to_z-of_z (ap (λ z. c.args.sum +ℤ (c.args.c *ℤ z)) same)

pub returns-clause-within : goal.returns-clause-within
returns-clause-within c =
    let fc : FitsSigned w128 c.args.c = c.ranges.c in
    let fx : FitsSigned w64 c.args.x = c.ranges.x in
    let fs : FitsSigned w128 c.args.sum = c.ranges.sum in
    let same = simp to_z-of_z at c.from.ensures in
    let fr : FitsSigned w128 c.from.result = search rules in
    let small = product_within c.args.c c.args.x c.from.result c.args.reach same c.requires.within in
    let product : FitsSigned w128 (c.args.c *ℤ c.from.result) = fits_signed_from_abs w128 _ (omega arith) in
    let within = sum_within c.args.sum (c.args.c *ℤ c.from.result) _ small in
    let total : FitsSigned w128 (c.args.sum +ℤ (c.args.c *ℤ c.from.result)) = fits_signed_from_abs w128 _ (omega arith) in
    simp to_z-of_z within
