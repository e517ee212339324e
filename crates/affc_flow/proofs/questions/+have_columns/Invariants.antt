use Rattle.std.proofs.Common.{length}
use Rattle.affc_flow.proofs.questions.+have_columns.Given as goal

abbrev pub decreases-have_columns : goal.decreases-have_columns
decreases-have_columns l = length l.forms.now
