use Rattle.std.proofs.Common.{length}
use Rattle.affc_accept.proofs.columns.+add_exchanged.Given as goal

abbrev pub decreases-add_exchanged : goal.decreases-add_exchanged
decreases-add_exchanged l = length l.forms.now
