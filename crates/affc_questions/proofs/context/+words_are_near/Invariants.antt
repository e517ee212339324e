use Rattle.std.proofs.Common.{length}
use Rattle.affc_questions.proofs.context.+words_are_near.Given as goal

abbrev pub decreases-words_are_near : goal.decreases-words_are_near
decreases-words_are_near l = length l.p.now
