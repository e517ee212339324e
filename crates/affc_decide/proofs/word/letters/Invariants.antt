use Rattle.std.proofs.Common.{take}
use Rattle.affc_decide.specs.Words.{NoSpaces}
use Rattle.affc_decide.proofs.word.letters.Given as goal

abbrev pub invariant-loop-at : goal.invariant-loop-at
invariant-loop-at l = NoSpaces (take l.at l.text)
