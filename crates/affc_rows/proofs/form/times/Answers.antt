use Rattle.std.proofs.Common.{arith, lit<, ◌^◌, ◌*ℤ◌, ◌∙◌, ap}
use Rattle.std.specs.Prelude.{FitsSigned, unsigned_abs, ◌≤◌}
use Rattle.std.specs.Int.{w64, w128}
use Rattle.std.proofs.lemmas.Int.{to_z-of_z, fits_signed_from_abs, fits_signed_mul, unsigned_abs-mul}
use Rattle.std.proofs.lemmas.Nat.{mul-le}
use Rattle.affc_rows.proofs.IntLemmas.{word_within}
use Rattle.affc_rows.proofs.form.times.Goals as goal

pub overflow_mul-result : goal.overflow_mul-result
overflow_mul-result c =
    let fs : FitsSigned w64 c.args.s = c.ranges.s in
    let fc : FitsSigned w64 c.args.c = c.ranges.c in
    let s = simp to_z-of_z at c.from.ensures in
    let d = simp to_z-of_z at c.from-2.ensures in
    let m : unsigned_abs c.from-2.result ≤ 2 ^ 63 = omega (arith, ap unsigned_abs d, word_within _ fc) in
    let n : unsigned_abs c.from.result ≤ 2 ^ 61 = omega (arith, ap unsigned_abs s, c.requires) in
    let f : FitsSigned w128 c.from.result = fits_signed_from_abs w128 _ (omega (arith, n)) in
    let g : FitsSigned w128 c.from-2.result = fits_signed_from_abs w128 _ (omega (arith, m)) in
    simp to_z-of_z (fits_signed_mul w128 c.from.result c.from-2.result (2 ^ 61) (2 ^ 63) n m (lit< tt))

pub returns-clause-value : goal.returns-clause-value
returns-clause-value c =
    let fs : FitsSigned w64 c.args.s = c.ranges.s in
    let fc : FitsSigned w64 c.args.c = c.ranges.c in
    let s = simp to_z-of_z at c.from.ensures in
    let d = simp to_z-of_z at c.from-2.ensures in
    let m : unsigned_abs c.from-2.result ≤ 2 ^ 63 = omega (arith, ap unsigned_abs d, word_within _ fc) in
    let n : unsigned_abs c.from.result ≤ 2 ^ 61 = omega (arith, ap unsigned_abs s, c.requires) in
    let f : FitsSigned w128 c.from.result = fits_signed_from_abs w128 _ (omega (arith, n)) in
    let g : FitsSigned w128 c.from-2.result = fits_signed_from_abs w128 _ (omega (arith, m)) in
    let fits : FitsSigned w128 (c.from.result *ℤ c.from-2.result) = fits_signed_mul w128 c.from.result c.from-2.result (2 ^ 61) (2 ^ 63) n m (lit< tt) in
    simp to_z-of_z (ap (λ z. z *ℤ c.from-2.result) s ∙ ap (λ z. c.args.s *ℤ z) d)

pub returns-clause-magnitude : goal.returns-clause-magnitude
returns-clause-magnitude c =
    let fc : FitsSigned w64 c.args.c = c.ranges.c in
    mul-le _ _ (2 ^ 61) (2 ^ 63) (omega (arith, c.requires)) (word_within _ fc)

pub returns-clause-fits : goal.returns-clause-fits
returns-clause-fits c =
    let fs : FitsSigned w64 c.args.s = c.ranges.s in
    let fc : FitsSigned w64 c.args.c = c.ranges.c in
    let s = simp to_z-of_z at c.from.ensures in
    let d = simp to_z-of_z at c.from-2.ensures in
    let m : unsigned_abs c.from-2.result ≤ 2 ^ 63 = omega (arith, ap unsigned_abs d, word_within _ fc) in
    let n : unsigned_abs c.from.result ≤ 2 ^ 61 = omega (arith, ap unsigned_abs s, c.requires) in
    let f : FitsSigned w128 c.from.result = fits_signed_from_abs w128 _ (omega (arith, n)) in
    let g : FitsSigned w128 c.from-2.result = fits_signed_from_abs w128 _ (omega (arith, m)) in
    let fits : FitsSigned w128 (c.from.result *ℤ c.from-2.result) = fits_signed_mul w128 c.from.result c.from-2.result (2 ^ 61) (2 ^ 63) n m (lit< tt) in
    simp to_z-of_z (omega (arith, unsigned_abs-mul c.from.result c.from-2.result, mul-le _ _ (2 ^ 61) (2 ^ 63) n m))
