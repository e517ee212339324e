use Rattle.std.proofs.Common.{length}
use Rattle.affc_dataflow.proofs.finding.+add_loads.Given as goal

abbrev pub decreases-add_loads : goal.decreases-add_loads
decreases-add_loads l = length l.accesses.now
