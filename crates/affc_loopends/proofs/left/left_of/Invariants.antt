use Rattle.std.proofs.Common.{◌≤◌, length}
use Rattle.affc_loopends.specs.Steps.{AreLeft}
use Rattle.affc_loopends.proofs.left.left_of.Given as goal

abbrev pub invariant-loop-place : goal.invariant-loop-place
invariant-loop-place l = AreLeft l.columns l.beside l.fn.kept.items l.left.rows.items × (l.place ≤ length l.left.rows.items)
