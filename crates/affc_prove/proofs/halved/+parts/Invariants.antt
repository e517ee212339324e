use Rattle.std.proofs.Common.{◌+◌, ◌*◌}
use Rattle.affc_prove.proofs.halved.+parts.Given as goal

abbrev pub decreases-part_proof : goal.decreases-part_proof
decreases-part_proof l = 2 * l.here.now.left

abbrev pub decreases-half_proof : goal.decreases-half_proof
decreases-half_proof l = 2 * l.left + 1
