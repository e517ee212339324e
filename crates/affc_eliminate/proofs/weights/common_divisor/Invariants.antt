use Rattle.std.proofs.Common.{take}
use Rattle.affc_eliminate.specs.Merges.{IsDivisor}
use Rattle.affc_eliminate.proofs.weights.common_divisor.Given as goal

abbrev pub invariant-loop-sum : goal.invariant-loop-sum
invariant-loop-sum l = IsDivisor l.divisor (take l.sum-index l.sums)
