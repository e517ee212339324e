use Rattle.std.proofs.Common.{length}
use Rattle.affc_nest.proofs.domains.+count_loops.Given as goal

abbrev pub decreases-count_loops : goal.decreases-count_loops
decreases-count_loops l = length l.frames.now
