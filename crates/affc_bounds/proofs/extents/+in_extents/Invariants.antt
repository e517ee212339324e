use Rattle.std.proofs.Common.{length}
use Rattle.affc_bounds.proofs.extents.+in_extents.Given as goal

abbrev pub decreases-in_extents : goal.decreases-in_extents
decreases-in_extents l = length l.extents.now
