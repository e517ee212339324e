use Rattle.std.proofs.Common.{length}
use Rattle.affc_rewrite.proofs.left_whole.+are_extents.Given as goal

abbrev pub decreases-are_extents : goal.decreases-are_extents
decreases-are_extents l = length l.moduli.now
