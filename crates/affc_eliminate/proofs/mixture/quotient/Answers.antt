use Rattle.std.proofs.Common.{◌∙◌, pos, ◌*ℤ◌, ◌<ℤ◌, refl, sym, ap, arith, rules}
use Rattle.std.specs.Prelude.{FitsSigned}
use Rattle.std.specs.Int.{w128}
use Rattle.std.proofs.lemmas.Int.{ints, quot_is, quot_fits, fits_signed_from_abs}
use Rattle.affc_eliminate.proofs.Quotients.{exact_quotient, through}
use Rattle.affc_eliminate.proofs.mixture.quotient.Goals as goal

pub returns-clause-some : goal.returns-clause-some
returns-clause-some c =
    let d = c.args.divisor in
    let sum = c.in-Some.sum in
    let sum_fits : FitsSigned w128 sum = search rules in
    let divisor_fits : FitsSigned w128 (pos d) = fits_signed_from_abs w128 (pos d) c.requires.small in
    let up : pos 0 <ℤ pos d = omega (arith, ints) in
    let e = c.in-Some.ensures.some ∙ through c.args.s c.args.a c.args.t c.args.b c.args.a c.args.b c.ranges.a c.ranges.b refl refl in
    ap (λ z. pos d *ℤ z) (quot_is w128 sum (pos d) sum_fits divisor_fits (quot_fits w128 sum (pos d) sum_fits up))
    ∙ exact_quotient d c.requires.divides.0 sum c.requires.positive (c.requires.divides.1 ∙ sym e) ∙ e
