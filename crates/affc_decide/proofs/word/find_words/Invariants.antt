use Rattle.std.proofs.Common.{length}
use Rattle.affc_decide.specs.Words.{texts_of}
use Rattle.affc_decide.proofs.Words.{Precede}
use Rattle.affc_decide.proofs.word.find_words.Given as goal

abbrev pub invariant-loop-word : goal.invariant-loop-word
invariant-loop-word l = Precede l.line (texts_of l.words.items) l.rest

abbrev pub decreases-loop-word : goal.decreases-loop-word
decreases-loop-word l = length l.rest
