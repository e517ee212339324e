use Rattle.std.proofs.Common.{rules, ◌≤ℤ◌, sym, subst, true, false}
use Rattle.std.specs.Prelude.{FitsSigned}
use Rattle.std.specs.Int.{w128}
use Rattle.std.proofs.lemmas.Int.{to_z-of_z}
use Rattle.affc_rows.specs.Forms.{value}
use Rattle.affc_system.specs.Boxes.{IsBox, corner}
use Rattle.affc_system.proofs.BoxLemmas.{value_least, value_greatest, corner_in_box, corner_is_corner, corner_past, magnitude_at_corner}
use Rattle.affc_system.proofs.boxes.interval.Goals as goal

pub returns-in_default-clause-range : goal.returns-in_default-clause-range
returns-in_default-clause-range c =
    let past = rw c.ranges-2.ensures.ranges at c.in_default.ensures.range in
    corner_past _ c.args.form.now c.args.ranges.now (sym c.requires) past

pub returns-clause-bounds : goal.returns-clause-bounds
returns-clause-bounds c = λ x b.
    let fl : FitsSigned w128 c.in-Ok.span.least = search rules in
    let fg : FitsSigned w128 c.in-Ok.span.greatest = search rules in
    let least = rw c.ranges-2.ensures.ranges at c.in-Ok.ensures.least in
    let greatest = rw c.ranges-2.ensures.ranges at c.in-Ok.ensures.greatest in
    simp to_z-of_z (
      subst (λ z. z ≤ℤ value c.args.form.now x) (sym least) (value_least c.args.form.now c.args.ranges.now x (sym c.requires) b),
      subst (λ z. value c.args.form.now x ≤ℤ z) (sym greatest) (value_greatest c.args.form.now c.args.ranges.now x (sym c.requires) b),
    )

pub returns-clause-least : goal.returns-clause-least
returns-clause-least c =
    let fl : FitsSigned w128 c.in-Ok.span.least = search rules in
    let least = rw c.ranges-2.ensures.ranges at c.in-Ok.ensures.least in
    let box : IsBox c.args.ranges.now = subst IsBox c.ranges-2.ensures.ranges c.ranges-2.ensures.ordered in
    let at = corner false c.args.form.now.coefs c.args.ranges.now in
    let inside = corner_in_box c.args.ranges.now at box (corner_is_corner false c.args.form.now.coefs c.args.ranges.now (sym c.requires)) in
    simp to_z-of_z (at, inside, sym least)

pub returns-clause-greatest : goal.returns-clause-greatest
returns-clause-greatest c =
    let fg : FitsSigned w128 c.in-Ok.span.greatest = search rules in
    let greatest = rw c.ranges-2.ensures.ranges at c.in-Ok.ensures.greatest in
    let box : IsBox c.args.ranges.now = subst IsBox c.ranges-2.ensures.ranges c.ranges-2.ensures.ordered in
    let at = corner true c.args.form.now.coefs c.args.ranges.now in
    let inside = corner_in_box c.args.ranges.now at box (corner_is_corner true c.args.form.now.coefs c.args.ranges.now (sym c.requires)) in
    simp to_z-of_z (at, inside, sym greatest)

pub returns-clause-fits : goal.returns-clause-fits
returns-clause-fits c = λ x k.
    let fits = rw c.ranges-2.ensures.ranges at c.in-Ok.ensures.fits in
    magnitude_at_corner c.args.form.now c.args.ranges.now x _ k fits
