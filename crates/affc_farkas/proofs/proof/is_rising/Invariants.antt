use Rattle.std.proofs.Common.{take}
use Rattle.affc_farkas.specs.Multiples.{IsRising}
use Rattle.affc_farkas.proofs.proof.is_rising.Given as goal

abbrev pub invariant-loop-i : goal.invariant-loop-i
invariant-loop-i l = IsRising (take l.i l.pairs)
