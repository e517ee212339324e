use Rattle.std.proofs.Common.{length}
use Rattle.affc_questions.proofs.distances.+add_agree.Given as goal

abbrev pub decreases-add_agree : goal.decreases-add_agree
decreases-add_agree l = length l.rows.now
