use Rattle.std.proofs.Common.{◌≡◌, refl, ◌*◌, ◌^◌, ◌∙◌, ap, subst, map}
use Rattle.affc_leaf.specs.Points.{points}
use Rattle.affc_weigh.specs.Costs.{stopped}
use Rattle.affc_bounds.specs.threshold.Thresholds.{greatest, cube, turns, breadth}
use Rattle.affc_bounds.proofs.threshold.Stops.{once, cubed}
use Rattle.affc_bounds.proofs.threshold.threshold.bound.Goals as goal

pub returns : goal.returns
returns c =
    let nest = c.args.nest.now in
    let sizes = breadth nest c.args.schedule.now in
    let values = points nest.params in
    let most : c.most_turns.result ≡ stopped (turns nest) =
    subst (λ es. c.most_turns.result ≡ stopped (greatest 1 (map (λ e. points e.ranges) es))) c.as_slice.ensures c.most_turns.ensures in
    let in_values : c.points_in-values.result ≡ stopped values = subst (λ r. c.points_in-values.result ≡ stopped (points r)) c.ranges-2.ensures.ranges c.points_in-values.ensures in
    let in_turns = cubed c.cubed-turns.result (turns nest) (c.cubed-turns.ensures ∙ ap (λ k. stopped (cube k)) most) in
    let in_sizes = cubed c.cubed-sizes.result sizes (c.cubed-sizes.ensures ∙ ap (λ k. stopped (cube k)) c.breadth.ensures) in
    let inner = once c.points_in-values.result c.cubed-turns.result values (cube (turns nest)) c.saturating_mul.result in_values in_turns c.saturating_mul.ensures in
    let work = once c.cubed-sizes.result c.saturating_mul.result (cube sizes) (values * cube (turns nest)) c.saturating_mul-work.result in_sizes inner c.saturating_mul-work.ensures in
    once c.saturating_mul-work.result 16777216 (cube sizes * (values * cube (turns nest))) (2 ^ 24) c.saturating_mul-2.result work refl c.saturating_mul-2.ensures
