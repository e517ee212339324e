use Rattle.std.proofs.Common.{◌+◌, ◌*◌}
use Rattle.affc_dataflow.proofs.grown.+trees.Given as goal

abbrev pub decreases-parted : goal.decreases-parted
decreases-parted l = 2 * l.depth.left

abbrev pub decreases-below : goal.decreases-below
decreases-below l = 2 * l.depth.left

abbrev pub decreases-grow : goal.decreases-grow
decreases-grow l = 2 * l.depth.left + 1
