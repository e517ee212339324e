use Rattle.std.proofs.Common.{length}
use Rattle.affc_accept.proofs.bases.+same_forms.Given as goal

abbrev pub decreases-same_forms : goal.decreases-same_forms
decreases-same_forms l = length l.forms.now
