use Rattle.std.proofs.Common.{length}
use Rattle.affc_questions.proofs.beside.+add_all_earlier.Given as goal

abbrev pub decreases-add_all_earlier : goal.decreases-add_all_earlier
decreases-add_all_earlier l = length l.entries.now
