use Rattle.std.proofs.Common.{length}
use Rattle.affc_bounds.proofs.extents.+in_arrays.Given as goal

abbrev pub decreases-in_arrays : goal.decreases-in_arrays
decreases-in_arrays l = length l.arrays.now
