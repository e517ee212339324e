use Rattle.std.proofs.Common.{length}
use Rattle.affc_flow.proofs.questions.+add_padded.Given as goal

abbrev pub decreases-add_padded : goal.decreases-add_padded
decreases-add_padded l = length l.forms.now
