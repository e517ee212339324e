use Rattle.std.proofs.Common.{take}
use Rattle.affc_eliminate.specs.project.States.{IsDivisor}
use Rattle.affc_eliminate.proofs.project.least.common_divisor.Given as goal

abbrev pub invariant-loop-number : goal.invariant-loop-number
invariant-loop-number l = IsDivisor l.divisor (take l.number-index l.numbers) l.last
