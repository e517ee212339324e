use Rattle.std.proofs.Common.{◌≡◌, ◌+◌}
use Rattle.affc_interp.specs.Operands as row
use Rattle.affc_interp.specs.Operands.{value_operators}
use Rattle.affc_interp.proofs.value.innermost.Given as goal

abbrev pub invariant-loop-a : goal.invariant-loop-a
invariant-loop-a l = record {
  count : l.count + value_operators l.here ≡ value_operators l.fn.v;
  same : row.below row.first_value (value_operators l.here) l.here ≡ row.below row.first_value (value_operators l.fn.v) l.fn.v;
}

abbrev pub decreases-loop-a : goal.decreases-loop-a
decreases-loop-a l = value_operators l.here
