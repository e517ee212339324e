use Rattle.std.proofs.Common.{◌≡◌, map, flat_map, take}
use Rattle.affc_sched.specs.Pairs.{use_at, uses_at}
use Rattle.affc_sched.specs.Questions.{pair_of}
use Rattle.affc_sched.proofs.pairs.all_pairs.Given as goal

abbrev pub invariant-loop-from : goal.invariant-loop-from
invariant-loop-from l = map uses_at l.out.items ≡ flat_map (λ x. flat_map (pair_of x) (map use_at l.from-items)) (map use_at (take l.from-index l.from-items))
