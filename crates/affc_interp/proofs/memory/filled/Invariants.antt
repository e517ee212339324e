use Rattle.std.proofs.Common.{◌≡◌}
use Rattle.affc_interp.specs.Layout.{given_cells}
use Rattle.affc_interp.proofs.memory.filled.Given as goal

abbrev pub invariant-loop-k : goal.invariant-loop-k
invariant-loop-k l = l.cells.items ≡ given_cells l.k l.values
