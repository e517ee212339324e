use Rattle.std.proofs.Common.{length}
use Rattle.affc_questions.proofs.lists.+add_sides.Given as goal

abbrev pub decreases-add_sides : goal.decreases-add_sides
decreases-add_sides l = length l.fs.now
