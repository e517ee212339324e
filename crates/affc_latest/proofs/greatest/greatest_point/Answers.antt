use Rattle.std.proofs.Common.{◌^◌, ◌≤◌, neg_ℤ, ◌++◌, map, sym, ap, subst, ◌∙◌}
use Rattle.std.specs.Prelude.{unsigned_abs}
use Rattle.std.specs.List.{All}
use Rattle.affc_latest.specs.Opposites.{IsLeastIn, IsGreatestPoint}
use Rattle.affc_latest.proofs.OppositeLemmas.{reach_there, greatest_there, none_there, near_there}
use Rattle.affc_latest.proofs.greatest.greatest_point.Goals as goal

pub least_point-requires-clause-reach : goal.least_point-requires-clause-reach
least_point-requires-clause-reach c =
    reach_there c.args.system.now c.in_ok-turned.turned c.args.ranges.now c.in_ok-turned_ranges.turned_ranges c.in_ok-turned.ensures c.in_ok-turned_ranges.ensures c.requires.reach

pub returns-in-None-clause-greatest : goal.returns-in-None-clause-greatest
returns-in-None-clause-greatest c =
    none_there c.args.system.now c.in_ok-turned.turned c.args.ranges.now c.in_ok-turned_ranges.turned_ranges c.in_ok-turned.ensures c.in_ok-turned_ranges.ensures
    (subst (IsLeastIn c.in_ok-turned.turned c.in_ok-turned_ranges.turned_ranges) c.in-None.is c.in_ok-least_point.ensures.least)

pub add_opposites-requires : goal.add_opposites-requires
add_opposites-requires c =
    subst (All (λ x. unsigned_abs x ≤ 2 ^ 60)) (sym c.as_slice.ensures)
    (near_there c.args.system.now c.in_ok-turned.turned c.args.ranges.now c.in_ok-turned_ranges.turned_ranges c.in_ok-turned.ensures c.in_ok-turned_ranges.ensures c.in-Some.point c.requires.reach
    (subst (IsLeastIn c.in_ok-turned.turned c.in_ok-turned_ranges.turned_ranges) c.in-Some.is c.in_ok-least_point.ensures.least))

pub returns-clause-greatest : goal.returns-clause-greatest
returns-clause-greatest c =
    subst (IsGreatestPoint c.args.system.now c.args.ranges.now)
    (sym (c.in_ok-add_opposites-in-Some.ensures ∙ ap (λ zs. zs ++ map neg_ℤ c.as_slice.result.now) c.new-greatest.ensures ∙ ap (map neg_ℤ) c.as_slice.ensures))
    (greatest_there c.args.system.now c.in_ok-turned.turned c.args.ranges.now c.in_ok-turned_ranges.turned_ranges c.in_ok-turned.ensures c.in_ok-turned_ranges.ensures c.in-Some.point
    (subst (IsLeastIn c.in_ok-turned.turned c.in_ok-turned_ranges.turned_ranges) c.in-Some.is c.in_ok-least_point.ensures.least))
