use Rattle.affc_loopends.specs.Steps.{AreFlat}
use Rattle.affc_loopends.proofs.ends.flat_among.Given as goal

abbrev pub invariant-loop-row : goal.invariant-loop-row
invariant-loop-row l = AreFlat l.column l.ranges l.rows l.flat.items
