use Rattle.std.proofs.Common.{take}
use Rattle.std.specs.List.{All}
use Rattle.affc_system.specs.Systems.{Meets}
use Rattle.affc_system.proofs.system.System.holds_at.Given as goal

abbrev pub invariant-loop-row : goal.invariant-loop-row
invariant-loop-row l = All (Meets l.point) (take l.row-index l.rows)
