use Rattle.std.proofs.Common.{take}
use Rattle.affc_decide.specs.Words.{texts_of}
use Rattle.affc_decide.specs.Blocks.{Say}
use Rattle.affc_decide.proofs.block.row_of.Given as goal

abbrev pub invariant-loop-word : goal.invariant-loop-word
invariant-loop-word l = Say (texts_of (take l.word-index l.words)) l.entries.items
