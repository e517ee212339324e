use Rattle.std.proofs.Common.{flat_map, take, []}
use Rattle.affc_sched.specs.Pairs.{AreAdded, asked_of}
use Rattle.affc_sched.proofs.groups.legality_groups.Given as goal

abbrev pub invariant-loop-pair : goal.invariant-loop-pair
invariant-loop-pair l = AreAdded [] l.groups.items (flat_map (asked_of l.nest l.schedule) (take l.pair-index l.pair-items))
