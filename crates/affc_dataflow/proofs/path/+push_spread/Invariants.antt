use Rattle.std.proofs.Common.{length}
use Rattle.affc_dataflow.proofs.path.+push_spread.Given as goal

abbrev pub decreases-push_spread : goal.decreases-push_spread
decreases-push_spread l = length l.rows.now
