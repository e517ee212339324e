-- The questions of trees and on the schedule in groups.
use Rattle.std.specs.Prelude.{◌≡◌, List, map, flat_map}
use Rattle.std.specs.List.{All}
use Rattle.affc_nest.specs.declared.nest.Nest.{Nest}
use Rattle.affc_trace.specs.declared.schedule.Schedule.{Schedule}
use Rattle.affc_sched.specs.Questions.{legality_questions}
use Rattle.affc_quast.specs.Trees.{Tree}
use Rattle.affc_products.specs.Groups.{group_systems}
use Rattle.affc_products.specs.Parts.{IsWithin}
use Rattle.affc_products.specs.declared.group.Group.{Group}
use Rattle.affc_check.specs.list.Items.{Item, Question}
use Rattle.affc_check.specs.list.Held.{legality_item}
use Rattle.affc_check.specs.list.Passes.{items_by_tree}
use Rattle.affc_check.specs.declared.list.item.Groups.{Groups}

-- the items of the groups of a part
abbrev pub part_items : List Group → List Item
part_items gs = map Question (flat_map group_systems gs)

-- these are the questions of trees, a part for each
abbrev pub AreTreeGroups : Nest → List Tree → List (List Group) → Type 0
AreTreeGroups nest trees parts = map part_items parts ≡ items_by_tree nest trees

-- these are the questions of the trees and those on the schedule, each within the limits of a system
pub record AreGroups (nest : Nest) (schedule : Schedule) (trees : List Tree) (groups : Groups) : Type 0 where
  pub of_trees : AreTreeGroups nest trees groups.trees
  pub of_schedule : part_items groups.schedule ≡ map legality_item (legality_questions nest schedule)
  pub within : All IsWithin (flat_map group_systems groups.schedule)
