use Rattle.std.proofs.Common.{length}
use Rattle.affc_interp.proofs.index.+node_sum.Given as goal

abbrev pub decreases-node_sum : goal.decreases-node_sum
decreases-node_sum l = length l.es.now
