use Rattle.std.proofs.Common.{arith, lit<, ◌^◌, ◌*ℤ◌, ap}
use Rattle.std.specs.Prelude.{FitsSigned, unsigned_abs, ◌≤◌}
use Rattle.std.specs.Int.{w64, w128}
use Rattle.std.proofs.lemmas.Int.{to_z-of_z, fits_signed_from_abs, fits_signed_mul, unsigned_abs-mul}
use Rattle.std.proofs.lemmas.Nat.{mul-le}
use Rattle.affc_rows.proofs.IntLemmas.{word_within}
use Rattle.affc_farkas.proofs.checker.times.Goals as goal

pub overflow_mul-result : goal.overflow_mul-result
overflow_mul-result c =
    let fg : FitsSigned w64 c.args.g = c.ranges.g in
    let fe : FitsSigned w128 c.args.entry = c.ranges.entry in
    let g = simp to_z-of_z at c.from.ensures in
    let m : unsigned_abs c.from.result ≤ 2 ^ 63 = omega (arith, ap unsigned_abs g, word_within _ fg) in
    let fr : FitsSigned w128 c.from.result = fits_signed_from_abs w128 _ (omega (arith, m)) in
    simp to_z-of_z (fits_signed_mul w128 c.from.result c.args.entry (2 ^ 63) (2 ^ 60) m c.requires (lit< tt))

pub returns-clause-value : goal.returns-clause-value
returns-clause-value c =
    let fg : FitsSigned w64 c.args.g = c.ranges.g in
    let fe : FitsSigned w128 c.args.entry = c.ranges.entry in
    let g = simp to_z-of_z at c.from.ensures in
    let m : unsigned_abs c.from.result ≤ 2 ^ 63 = omega (arith, ap unsigned_abs g, word_within _ fg) in
    let fr : FitsSigned w128 c.from.result = fits_signed_from_abs w128 _ (omega (arith, m)) in
    let fits : FitsSigned w128 (c.from.result *ℤ c.args.entry) = fits_signed_mul w128 c.from.result c.args.entry (2 ^ 63) (2 ^ 60) m c.requires (lit< tt) in
    simp to_z-of_z (ap (λ z. z *ℤ c.args.entry) g)

pub returns-clause-small : goal.returns-clause-small
returns-clause-small c =
    let fg : FitsSigned w64 c.args.g = c.ranges.g in
    let fe : FitsSigned w128 c.args.entry = c.ranges.entry in
    let g = simp to_z-of_z at c.from.ensures in
    let m : unsigned_abs c.from.result ≤ 2 ^ 63 = omega (arith, ap unsigned_abs g, word_within _ fg) in
    let fr : FitsSigned w128 c.from.result = fits_signed_from_abs w128 _ (omega (arith, m)) in
    let fits : FitsSigned w128 (c.from.result *ℤ c.args.entry) = fits_signed_mul w128 c.from.result c.args.entry (2 ^ 63) (2 ^ 60) m c.requires (lit< tt) in
    simp to_z-of_z (omega (arith, unsigned_abs-mul c.from.result c.args.entry, mul-le _ _ (2 ^ 63) (2 ^ 60) m c.requires))
