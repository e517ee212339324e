use Rattle.std.proofs.Common.{length}
use Rattle.affc_quast.proofs.leaves.+add_divisions.Given as goal

abbrev pub decreases-add_divisions : goal.decreases-add_divisions
decreases-add_divisions l = length l.divisions.now
