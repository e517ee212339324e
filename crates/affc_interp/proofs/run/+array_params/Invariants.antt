use Rattle.std.proofs.Common.{length}
use Rattle.affc_interp.proofs.run.+array_params.Given as goal

abbrev pub decreases-array_params : goal.decreases-array_params
decreases-array_params l = length l.params.now
