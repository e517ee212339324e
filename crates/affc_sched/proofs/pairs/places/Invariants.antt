use Rattle.std.proofs.Common.{◌≡◌, map, flat_map, take}
use Rattle.affc_sched.specs.Pairs.{use_at}
use Rattle.affc_sched.specs.Questions.{uses_of}
use Rattle.affc_sched.proofs.pairs.places.Given as goal

abbrev pub invariant-loop-entry : goal.invariant-loop-entry
invariant-loop-entry l = map use_at l.out.items ≡ flat_map uses_of (take l.entry-index l.entries)
