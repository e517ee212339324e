use Rattle.std.proofs.Common.{length}
use Rattle.affc_interp.proofs.memory.+size.Given as goal

abbrev pub decreases-size : goal.decreases-size
decreases-size l = length l.extents.now
