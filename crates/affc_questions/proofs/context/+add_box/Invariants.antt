use Rattle.std.proofs.Common.{length}
use Rattle.affc_questions.proofs.context.+add_box.Given as goal

abbrev pub decreases-add_box : goal.decreases-add_box
decreases-add_box l = length l.ranges.now
