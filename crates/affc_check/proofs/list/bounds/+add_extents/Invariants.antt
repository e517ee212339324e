use Rattle.std.proofs.Common.{length}
use Rattle.affc_check.proofs.list.bounds.+add_extents.Given as goal

abbrev pub decreases-add_extents : goal.decreases-add_extents
decreases-add_extents l = length l.extents.now
