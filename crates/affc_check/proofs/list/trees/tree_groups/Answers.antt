use Rattle.std.proofs.Common.{map, ◌++◌, sym, ap, subst, ◌∙◌}
use Rattle.affc_sched.specs.Touched.{Each}
use Rattle.affc_check.specs.list.Groups.{part_items}
use Rattle.affc_check.specs.list.Loads.{part_said, IsPart}
use Rattle.affc_check.proofs.list.trees.tree_groups.Goals as goal

pub add_groups_in-requires-clause-parts : goal.add_groups_in-requires-clause-parts
add_groups_in-requires-clause-parts c = subst (Each (IsPart c.args.nest.now)) (sym c.as_slice.ensures) c.in_ok-parts.ensures.each

pub returns : goal.returns
returns c =
    let nest = c.args.nest.now in
    c.in_ok-add_groups_in.ensures ∙ ap (λ gs. map part_items gs ++ map (part_said nest) c.as_slice.result.now) c.new-groups.ensures ∙ ap (map (part_said nest)) c.as_slice.ensures ∙ c.in_ok-parts.ensures.said
