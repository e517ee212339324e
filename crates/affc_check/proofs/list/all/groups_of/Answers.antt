use Rattle.std.proofs.Common.{flat_map, map, sym, ap, subst, ◌∙◌}
use Rattle.std.specs.List.{All}
use Rattle.affc_order.proofs.CodeLemmas.{is_nest}
use Rattle.affc_sched.specs.Questions.{legality_questions}
use Rattle.affc_products.specs.Groups.{group_systems}
use Rattle.affc_products.specs.Parts.{IsWithin}
use Rattle.affc_check.specs.list.Items.{Question}
use Rattle.affc_check.specs.list.Groups.{part_items}
use Rattle.affc_check.proofs.list.ListLemmas.{by_systems}
use Rattle.affc_check.proofs.list.all.groups_of.Goals as goal

pub tree_groups-requires-clause-nested : goal.tree_groups-requires-clause-nested
tree_groups-requires-clause-nested c = is_nest c.args.nest.now c.args.schedule.now c.requires.asked.scheduled

pub returns : goal.returns
returns c = record {
  of_trees = c.in_ok-trees.ensures;
  of_schedule = ap part_items c.from_vec.ensures ∙ ap (map Question) c.in_ok-groups.ensures.value ∙ by_systems (legality_questions c.args.nest.now c.args.schedule.now);
  within = subst (λ gs. All IsWithin (flat_map group_systems gs)) (sym c.from_vec.ensures) c.in_ok-groups.ensures.within;
}
