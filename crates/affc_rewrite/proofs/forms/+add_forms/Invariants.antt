use Rattle.std.proofs.Common.{length}
use Rattle.affc_rewrite.proofs.forms.+add_forms.Given as goal

abbrev pub decreases-add_forms : goal.decreases-add_forms
decreases-add_forms l = length l.es.now
