use Rattle.std.proofs.Common.{length}
use Rattle.affc_questions.proofs.beside.+add_all_between.Given as goal

abbrev pub decreases-add_all_between : goal.decreases-add_all_between
decreases-add_all_between l = length l.entries.now
