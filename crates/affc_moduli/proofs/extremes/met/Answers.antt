use Rattle.std.proofs.Common.{◌≤◌, ◌^◌, ◌∙◌, ℤ, sym, subst, arith}
use Rattle.std.specs.Prelude.{FitsSigned, unsigned_abs}
use Rattle.std.specs.Int.{w64}
use Rattle.std.proofs.lemmas.Int.{to_z-of_z, fits_signed_from_abs}
use Rattle.affc_moduli.proofs.AskedLemmas.{tie_of, joined_sought, joined_level}
use Rattle.affc_moduli.proofs.extremes.met.Goals as goal

pub shown_at-requires-clause-measure : goal.shown_at-requires-clause-measure
shown_at-requires-clause-measure c = c.requires.way.askable.measure

pub returns-clause-sought : goal.returns-clause-sought
returns-clause-sought c =
    let asked = c.args.asked.now in
    let candidate = c.in_ok-candidate.candidate in
    let made = c.in_ok-candidate.ensures in
    let point = c.in_ok-point.point in
    let near = c.requires.near in
    let fits : FitsSigned w64 c.args.best.value = fits_signed_from_abs w64 c.args.best.value (omega (arith, near)) in
    let value = simp to_z-of_z at made.value in
    joined_sought asked c.args.aim.start c.args.sought candidate c.joined.result c.requires.sought
    (tie_of asked c.args.way.now c.requires.way candidate.found c.args.best.value point.items made.number value made.point c.in_ok-point.ensures.inside c.in_ok-point.ensures.attained c.requires.positive)
    (subst (λ (v : ℤ). unsigned_abs v ≤ 2 ^ 55) (sym value) c.requires.near) c.joined.ensures

pub returns-clause-level : goal.returns-clause-level
returns-clause-level c =
    let near = c.requires.near in
    let fits : FitsSigned w64 c.args.best.value = fits_signed_from_abs w64 c.args.best.value (omega (arith, near)) in
    let value = simp to_z-of_z at c.in_ok-candidate.ensures.value in
    joined_level c.args.sought c.in_ok-candidate.candidate c.joined.result c.joined.ensures ∙ value
