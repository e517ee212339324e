use Rattle.std.proofs.Common.{length}
use Rattle.affc_check.proofs.list.bounds.+add_arrays.Given as goal

abbrev pub decreases-add_arrays : goal.decreases-add_arrays
decreases-add_arrays l = length l.arrays.now
