use Rattle.std.proofs.Common.{length}
use Rattle.affc_questions.proofs.rows.+add_equals.Given as goal

abbrev pub decreases-add_equals : goal.decreases-add_equals
decreases-add_equals l = length l.fs.now
