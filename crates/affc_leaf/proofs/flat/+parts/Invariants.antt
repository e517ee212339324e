use Rattle.std.proofs.Common.{◌+◌, ◌*◌}
use Rattle.affc_leaf.proofs.flat.+parts.Given as goal

abbrev pub decreases-part_found : goal.decreases-part_found
decreases-part_found l = 2 * l.deep

abbrev pub decreases-halves_found : goal.decreases-halves_found
decreases-halves_found l = 2 * l.deep + 1
