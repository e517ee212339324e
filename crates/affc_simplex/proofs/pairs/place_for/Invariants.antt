use Rattle.std.proofs.Common.{◌≤◌, length}
use Rattle.affc_simplex.proofs.pairs.place_for.Given as goal

abbrev pub invariant-loop-place : goal.invariant-loop-place
invariant-loop-place l = l.place ≤ length l.pairs

abbrev pub decreases-loop-place : goal.decreases-loop-place
decreases-loop-place l = l.place
