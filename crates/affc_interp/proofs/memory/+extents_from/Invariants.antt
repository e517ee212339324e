use Rattle.std.proofs.Common.{length}
use Rattle.affc_interp.proofs.memory.+extents_from.Given as goal

abbrev pub decreases-extents_from : goal.decreases-extents_from
decreases-extents_from l = length l.es.now
