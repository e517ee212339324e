use Rattle.std.proofs.Common.{length}
use Rattle.affc_nest.proofs.accesses.+add_array_params.Given as goal

abbrev pub decreases-add_array_params : goal.decreases-add_array_params
decreases-add_array_params l = length l.params.now
