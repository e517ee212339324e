use Rattle.std.proofs.Common.{◌≡◌, ◌≤ℤ◌, ◌++◌, ◌∷◌, [], FitsSigned, w64, false, true, rules, ap, subst, ◌∙◌}
use Rattle.std.specs.Int.{w128}
use Rattle.std.proofs.lemmas.Int.{to_z-of_z}
use Rattle.affc_rows.specs.Forms.{value}
use Rattle.affc_system.specs.Boxes.{IsBox, corner}
use Rattle.affc_ast.specs.Index.{floor_of}
use Rattle.affc_nest.proofs.IntervalLemmas.{least_is, greatest_is}
use Rattle.affc_nest.specs.Divisions.{held}
use Rattle.affc_nest.proofs.DivisionLemmas.{past_no_corner, range_is, ordered_is}
use Rattle.affc_nest.proofs.divisions.add_quotient.Goals as goal

pub unreachable-requires : goal.unreachable-requires
unreachable-requires c = past_no_corner c.args.ranges.now c.args.form.now c.requires.fits c.in_default.ensures.range

pub push-requires : goal.push-requires
push-requires c =
    let box = subst IsBox c.ranges-ordered.ensures.ranges c.ranges-ordered.ensures.ordered in
    let fit_low : FitsSigned w128 c.in-Ok.low = search rules in
    let fit_high : FitsSigned w128 c.in-Ok.high = search rules in
    let fit_by : FitsSigned w64 c.args.by = c.ranges.by in
    let fit_first : FitsSigned w64 c.quotient-first.result = search rules in
    let fit_last : FitsSigned w64 c.quotient-last.result = search rules in
    let low_is : c.in-Ok.low ≡ value c.args.form.now (corner false c.args.form.now.coefs c.args.ranges.now) =
    least_is c.args.form.now c.args.ranges.now c.in-Ok.low box c.requires.width (λ y i. (c.in-Ok.ensures.bounds y i).0) c.in-Ok.ensures.least in
    let high_is : c.in-Ok.high ≡ value c.args.form.now (corner true c.args.form.now.coefs c.args.ranges.now) =
    greatest_is c.args.form.now c.args.ranges.now c.in-Ok.high box c.requires.width (λ y i. (c.in-Ok.ensures.bounds y i).1) c.in-Ok.ensures.greatest in
    let first : c.quotient-first.result ≡ held 1152921504606846976 (floor_of c.in-Ok.low c.args.by) = simp to_z-of_z at c.quotient-first.ensures in
    let last : c.quotient-last.result ≡ held 1152921504606846976 (floor_of c.in-Ok.high c.args.by) = simp to_z-of_z at c.quotient-last.ensures in
    let range = range_is c.args.ranges.now c.args.form.now c.args.by c.in-Ok.low c.in-Ok.high c.quotient-first.result c.quotient-last.result low_is high_is first last in
    let ordered : c.quotient-first.result ≤ℤ c.quotient-last.result = ordered_is c.args.ranges.now c.args.form.now c.args.by c.quotient-first.result c.quotient-last.result box c.requires.width c.requires.by range in
    simp to_z-of_z ordered

pub returns : goal.returns
returns c =
    let box = subst IsBox c.ranges-ordered.ensures.ranges c.ranges-ordered.ensures.ordered in
    let fit_low : FitsSigned w128 c.in-Ok.low = search rules in
    let fit_high : FitsSigned w128 c.in-Ok.high = search rules in
    let fit_by : FitsSigned w64 c.args.by = c.ranges.by in
    let fit_first : FitsSigned w64 c.quotient-first.result = search rules in
    let fit_last : FitsSigned w64 c.quotient-last.result = search rules in
    let low_is : c.in-Ok.low ≡ value c.args.form.now (corner false c.args.form.now.coefs c.args.ranges.now) =
    least_is c.args.form.now c.args.ranges.now c.in-Ok.low box c.requires.width (λ y i. (c.in-Ok.ensures.bounds y i).0) c.in-Ok.ensures.least in
    let high_is : c.in-Ok.high ≡ value c.args.form.now (corner true c.args.form.now.coefs c.args.ranges.now) =
    greatest_is c.args.form.now c.args.ranges.now c.in-Ok.high box c.requires.width (λ y i. (c.in-Ok.ensures.bounds y i).1) c.in-Ok.ensures.greatest in
    let first : c.quotient-first.result ≡ held 1152921504606846976 (floor_of c.in-Ok.low c.args.by) = simp to_z-of_z at c.quotient-first.ensures in
    let last : c.quotient-last.result ≡ held 1152921504606846976 (floor_of c.in-Ok.high c.args.by) = simp to_z-of_z at c.quotient-last.ensures in
    let range = range_is c.args.ranges.now c.args.form.now c.args.by c.in-Ok.low c.in-Ok.high c.quotient-first.result c.quotient-last.result low_is high_is first last in
    let made : c.push.new.self ≡ c.args.ranges.now ++ (c.quotient-first.result, c.quotient-last.result) ∷ [] = simp to_z-of_z at c.in_ok-push.ensures.ok in
    made ∙ ap (λ r. c.args.ranges.now ++ r ∷ []) range
