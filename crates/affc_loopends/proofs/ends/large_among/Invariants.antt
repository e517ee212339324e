use Rattle.std.proofs.Common.{take}
use Rattle.std.specs.List.{All}
use Rattle.affc_loopends.specs.Sizes.{IsModest}
use Rattle.affc_loopends.proofs.ends.large_among.Given as goal

abbrev pub invariant-loop-i : goal.invariant-loop-i
invariant-loop-i l = All (IsModest l.ranges) (take l.i l.rows)
