use Rattle.std.proofs.Common.{take}
use Rattle.affc_decide.specs.Words.{AllSpaces}
use Rattle.affc_decide.proofs.word.spaces.Given as goal

abbrev pub invariant-loop-at : goal.invariant-loop-at
invariant-loop-at l = AllSpaces (take l.at l.text)
