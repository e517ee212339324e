use Rattle.std.proofs.Common.{take}
use Rattle.affc_loopends.specs.Steps.{AreEnough}
use Rattle.affc_loopends.proofs.ends.narrowed.Given as goal

abbrev pub invariant-loop-row : goal.invariant-loop-row
invariant-loop-row l = AreEnough l.columns (take l.row-index l.rows) l.kept.items
