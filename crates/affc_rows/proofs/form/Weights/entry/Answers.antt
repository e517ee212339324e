use Rattle.std.proofs.Common.{arith, ◌∙◌, ap, ◌+ℤ◌, ◌*ℤ◌}
use Rattle.std.specs.Prelude.{FitsSigned}
use Rattle.std.specs.Int.{w64, w128}
use Rattle.std.proofs.lemmas.Int.{to_z-of_z, ints, fits_signed_from_abs}
use Rattle.affc_rows.proofs.IntLemmas.{abs-add}
use Rattle.affc_rows.proofs.form.Weights.entry.Goals as goal

pub returns-clause-value : goal.returns-clause-value
returns-clause-value c =
    let fc : FitsSigned w64 c.args.c = c.ranges.c in
    let fd : FitsSigned w64 c.args.d = c.ranges.d in
    let fs : FitsSigned w64 c.args.self.s = fits_signed_from_abs w64 _ (omega (arith, c.args.self.small_s)) in
    let ft : FitsSigned w64 c.args.self.t = fits_signed_from_abs w64 _ (omega (arith, c.args.self.small_t)) in
    let fa : FitsSigned w128 c.times.result = fits_signed_from_abs w128 _ (omega (arith, c.times.ensures.fits)) in
    let fb : FitsSigned w128 c.times-2.result = fits_signed_from_abs w128 _ (omega (arith, c.times-2.ensures.fits)) in
    let sum : FitsSigned w128 (c.times.result +ℤ c.times-2.result) = omega (arith, ints, c.times.ensures.fits, c.times-2.ensures.fits) in
    let a = simp to_z-of_z at c.times.ensures.value in
    let b = simp to_z-of_z at c.times-2.ensures.value in
    simp to_z-of_z (ap (λ z. z +ℤ c.times-2.result) a ∙ ap (λ z. (c.args.self.s *ℤ c.args.c) +ℤ z) b)

pub overflow_add-result : goal.overflow_add-result
overflow_add-result c =
    let fa : FitsSigned w128 c.times.result = fits_signed_from_abs w128 _ (omega (arith, c.times.ensures.fits)) in
    let fb : FitsSigned w128 c.times-2.result = fits_signed_from_abs w128 _ (omega (arith, c.times-2.ensures.fits)) in
    simp to_z-of_z (fits_signed_from_abs w128 _ (omega (arith, abs-add c.times.result c.times-2.result, c.times.ensures.fits, c.times-2.ensures.fits)))

pub returns-clause-fits : goal.returns-clause-fits
returns-clause-fits c =
    let fc : FitsSigned w64 c.args.c = c.ranges.c in
    let fd : FitsSigned w64 c.args.d = c.ranges.d in
    let fs : FitsSigned w64 c.args.self.s = fits_signed_from_abs w64 _ (omega (arith, c.args.self.small_s)) in
    let ft : FitsSigned w64 c.args.self.t = fits_signed_from_abs w64 _ (omega (arith, c.args.self.small_t)) in
    let a = simp to_z-of_z at c.times.ensures.magnitude in
    let b = simp to_z-of_z at c.times-2.ensures.magnitude in
    omega (arith, a, b)
