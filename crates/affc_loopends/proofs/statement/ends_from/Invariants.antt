use Rattle.std.proofs.Common.{◌≡◌, ◌+◌, length}
use Rattle.affc_loopends.specs.Whys.{AreBoundsFrom}
use Rattle.affc_loopends.proofs.statement.ends_from.Given as goal

abbrev pub invariant-loop-column : goal.invariant-loop-column
invariant-loop-column l = AreBoundsFrom l.system l.first l.ranges l.all.items × (l.first + length l.all.items ≡ l.column)
