use Rattle.std.proofs.Common.{length}
use Rattle.affc_loopends.proofs.system.+add_components.Given as goal

abbrev pub decreases-add_components : goal.decreases-add_components
decreases-add_components l = length l.forms.now
