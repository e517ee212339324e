use Rattle.std.proofs.Common.{length}
use Rattle.affc_interp.proofs.memory.+place_on.Given as goal

abbrev pub decreases-place_on : goal.decreases-place_on
decreases-place_on l = length l.subs.now
