use Rattle.std.proofs.Common.{length}
use Rattle.affc_interp.proofs.memory.Memory.+declare_params.Given as goal

abbrev pub decreases-declare_params : goal.decreases-declare_params
decreases-declare_params l = length l.params.now
