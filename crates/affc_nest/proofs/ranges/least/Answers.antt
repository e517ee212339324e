use Rattle.std.proofs.Common.{◌≤◌, ◌^◌, sym, subst, false}
use Rattle.std.specs.Prelude.{unsigned_abs}
use Rattle.affc_system.specs.Boxes.{IsBox, corner}
use Rattle.affc_system.proofs.BoxLemmas.{corner_is_corner}
use Rattle.affc_nest.proofs.IntervalLemmas.{least_is, not_past, corner_small, fits_wide, less_wide}
use Rattle.affc_nest.proofs.ranges.least.Goals as goal

pub unreachable-requires : goal.unreachable-requires
unreachable-requires c = not_past c.args.form.now c.args.ranges.now c.requires.side c.requires.near c.requires.few c.in_default.ensures.range

pub returns-clause-value : goal.returns-clause-value
returns-clause-value c = fits_wide _ _ (least_is c.args.form.now c.args.ranges.now c.in-Ok.least (subst IsBox c.ranges-ordered.ensures.ranges c.ranges-ordered.ensures.ordered) c.requires.side.width (λ y i. (c.in-Ok.ensures.bounds y i).0) c.in-Ok.ensures.least)
    (less_wide (corner_small c.args.form.now c.args.ranges.now (corner false c.args.form.now.coefs c.args.ranges.now) c.requires.side c.requires.near c.requires.few
    (corner_is_corner false c.args.form.now.coefs c.args.ranges.now c.requires.side.width)))

pub returns-clause-small : goal.returns-clause-small
returns-clause-small c = subst (λ y. unsigned_abs y ≤ 2 ^ 60) (sym (fits_wide _ _ (least_is c.args.form.now c.args.ranges.now c.in-Ok.least (subst IsBox c.ranges-ordered.ensures.ranges c.ranges-ordered.ensures.ordered) c.requires.side.width (λ y i. (c.in-Ok.ensures.bounds y i).0) c.in-Ok.ensures.least)
    (less_wide (corner_small c.args.form.now c.args.ranges.now (corner false c.args.form.now.coefs c.args.ranges.now) c.requires.side c.requires.near c.requires.few
    (corner_is_corner false c.args.form.now.coefs c.args.ranges.now c.requires.side.width))))) (corner_small c.args.form.now c.args.ranges.now (corner false c.args.form.now.coefs c.args.ranges.now) c.requires.side c.requires.near c.requires.few
    (corner_is_corner false c.args.form.now.coefs c.args.ranges.now c.requires.side.width))
