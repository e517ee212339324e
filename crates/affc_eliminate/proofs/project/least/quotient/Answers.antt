use Rattle.std.proofs.Common.{◌≡◌, ◌/◌, ◌^◌, ◌<◌, pos, neg_ℤ, ◌*ℤ◌, ◌<ℤ◌, ◌≤ℤ◌, refl, sym, ap, ◌∙◌, arith, rules}
use Rattle.std.specs.Prelude.{unsigned_abs, FitsSigned}
use Rattle.std.specs.Int.{w128}
use Rattle.std.proofs.lemmas.Int.{ints, to_z-of_z, to_z_pos}
use Rattle.affc_eliminate.proofs.Mixtures.{magnitude_of}
use Rattle.affc_eliminate.proofs.project.Leasts.{up_quotient, down_quotient}
use Rattle.affc_eliminate.proofs.project.least.quotient.Goals as goal

pub returns-in-Some : goal.returns-in-Some
returns-in-Some c =
    let d = c.args.divisor in
    let n = c.args.number in
    let m = c.unsigned_abs.result / d in
    let z = c.in-Some.negative in
    let fits : FitsSigned w128 z = search rules in
    let is : z ≡ neg_ℤ (pos m) = first_of (omega (arith, ints, c.in-Some.ensures), search rules) in
    let down : n <ℤ pos 0 = first_of (omega (arith, ints), search rules) in
    let abs : c.unsigned_abs.result ≡ unsigned_abs n = magnitude_of c.unsigned_abs.result n n c.ranges.number c.unsigned_abs.ensures.value refl in
    down_quotient n d m down c.requires.divides (ap (λ k. k / d) abs) ∙ ap (λ y. pos d *ℤ y) (sym is ∙ sym (to_z-of_z w128 z fits))

pub returns-else-number-lt0 : goal.returns-else-number-lt0
returns-else-number-lt0 c =
    let d = c.args.divisor in
    let n = c.args.number in
    let m = c.unsigned_abs.result / d in
    let up : pos 0 ≤ℤ n = first_of (omega (arith, ints), search rules) in
    let small : m < 2 ^ 127 = first_of (search rules, omega (arith, ints)) in
    let abs : c.unsigned_abs.result ≡ unsigned_abs n = magnitude_of c.unsigned_abs.result n n c.ranges.number c.unsigned_abs.ensures.value refl in
    up_quotient n d m up c.requires.divides (ap (λ k. k / d) abs) ∙ ap (λ y. pos d *ℤ y) (sym (to_z_pos w128 m small))
