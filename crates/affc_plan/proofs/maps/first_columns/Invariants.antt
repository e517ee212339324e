use Rattle.std.proofs.Common.{◌≡◌}
use Rattle.affc_trace.specs.Inverses.{columns_from}
use Rattle.affc_plan.proofs.maps.first_columns.Given as goal

abbrev pub invariant-loop-j : goal.invariant-loop-j
invariant-loop-j l = l.made ≡ columns_from l.columns 0 l.j
