use Rattle.std.proofs.Common.{◌≡◌, pos, ◌*ℤ◌, take, map}
use Rattle.affc_eliminate.proofs.project.least.quotients.Given as goal

abbrev pub invariant-loop-number : goal.invariant-loop-number
invariant-loop-number l = take l.number-index l.numbers ≡ map (λ z. pos l.divisor *ℤ z) l.parts.items
