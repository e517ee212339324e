use Rattle.std.proofs.Common.{◌≡◌, ◌++◌, map}
use Rattle.affc_check.proofs.list.trees.add_ranged.Given as goal

abbrev pub invariant-loop-each : goal.invariant-loop-each
invariant-loop-each l = l.out.items ≡ l.initial.out.items ++ map (λ r. r.group) l.yielded
