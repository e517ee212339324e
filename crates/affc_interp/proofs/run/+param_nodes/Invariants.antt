use Rattle.std.proofs.Common.{length}
use Rattle.affc_interp.proofs.run.+param_nodes.Given as goal

abbrev pub decreases-param_nodes : goal.decreases-param_nodes
decreases-param_nodes l = length l.params.now
