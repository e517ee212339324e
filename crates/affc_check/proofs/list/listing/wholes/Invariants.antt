use Rattle.std.proofs.Common.{flat_map, ◌≡◌, map}
use Rattle.affc_check.specs.list.Held.{item_said, listed_said}
use Rattle.affc_check.proofs.list.listing.wholes.Given as goal

abbrev pub invariant-loop-one : goal.invariant-loop-one
invariant-loop-one l = map item_said l.items.items ≡ flat_map listed_said l.yielded
