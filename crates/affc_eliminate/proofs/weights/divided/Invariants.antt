use Rattle.std.proofs.Common.{◌≡◌, ◌≤◌, ◌^◌, ◌/◌, take, map}
use Rattle.std.specs.List.{All}
use Rattle.affc_eliminate.proofs.weights.divided.Given as goal

abbrev pub invariant-loop-sum : goal.invariant-loop-sum
invariant-loop-sum l = record {
  made : l.pairs.items ≡ map (λ p. (p.0, p.1 / l.divisor)) (take l.sum-index l.sums);
  small : All (λ p. p.1 ≤ 2 ^ 53) l.pairs.items;
}
