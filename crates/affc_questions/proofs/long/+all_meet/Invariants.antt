use Rattle.std.proofs.Common.{length}
use Rattle.affc_questions.proofs.long.+all_meet.Given as goal

abbrev pub decreases-all_meet : goal.decreases-all_meet
decreases-all_meet l = length l.rows.now
