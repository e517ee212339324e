use Rattle.std.proofs.Common.{length}
use Rattle.affc_questions.proofs.lists.+add_below_zero.Given as goal

abbrev pub decreases-add_below_zero : goal.decreases-add_below_zero
decreases-add_below_zero l = length l.forms.now
