use Rattle.std.proofs.Common.{take}
use Rattle.affc_loopends.specs.Steps.{AreOfEnd}
use Rattle.affc_loopends.proofs.ends.of_end.Given as goal

abbrev pub invariant-loop-row : goal.invariant-loop-row
invariant-loop-row l = AreOfEnd l.lower l.column (take l.row-index l.rows) l.chosen.items
