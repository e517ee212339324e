use Rattle.std.proofs.Common.{flat_map}
use Rattle.affc_products.specs.Groups.{group_systems}
use Rattle.affc_check.proofs.list.GroupLemmas.{kept_none_passes}
use Rattle.affc_check.proofs.list.groups.add_kept.Goals as goal

pub unreachable-requires : goal.unreachable-requires
unreachable-requires c = kept_none_passes (flat_map group_systems c.args.groups.now) c.requires (c.in-Err-Past.ensures.past c.in-Err-Past.field-0-is)
