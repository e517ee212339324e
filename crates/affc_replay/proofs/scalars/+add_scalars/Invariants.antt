use Rattle.std.proofs.Common.{length}
use Rattle.affc_replay.proofs.scalars.+add_scalars.Given as goal

abbrev pub decreases-add_scalars : goal.decreases-add_scalars
decreases-add_scalars l = length l.arrays.now
