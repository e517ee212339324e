use Rattle.std.proofs.Common.{◌<◌, length}
use Rattle.affc_eliminate.proofs.project.elimination.fewest.Given as goal

abbrev pub invariant-loop-place : goal.invariant-loop-place
invariant-loop-place l = l.best < length l.left
