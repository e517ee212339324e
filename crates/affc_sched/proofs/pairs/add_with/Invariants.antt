use Rattle.std.proofs.Common.{◌≡◌, ◌++◌, map, flat_map, take}
use Rattle.affc_sched.specs.Pairs.{use_at, uses_at}
use Rattle.affc_sched.specs.Questions.{pair_of}
use Rattle.affc_sched.proofs.pairs.add_with.Given as goal

abbrev pub invariant-loop-to : goal.invariant-loop-to
invariant-loop-to l = map uses_at l.out.items ≡ map uses_at l.initial.out.items ++ flat_map (pair_of (use_at l.from)) (map use_at (take l.to-index l.places))
