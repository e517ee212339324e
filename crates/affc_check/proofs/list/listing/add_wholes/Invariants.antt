use Rattle.std.proofs.Common.{◌≡◌, ◌++◌, map}
use Rattle.affc_check.specs.list.Held.{item_said}
use Rattle.affc_check.specs.list.Items.{Question}
use Rattle.affc_check.proofs.list.listing.add_wholes.Given as goal

abbrev pub invariant-loop-system : goal.invariant-loop-system
invariant-loop-system l = map item_said l.out.items ≡ map item_said l.initial.out.items ++ map Question l.yielded
