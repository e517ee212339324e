use Rattle.std.proofs.Common.{◌≡◌, ◌+◌}
use Rattle.affc_interp.specs.Operands as row
use Rattle.affc_interp.specs.Operands.{operators}
use Rattle.affc_interp.proofs.index.innermost.Given as goal

abbrev pub invariant-loop-a : goal.invariant-loop-a
invariant-loop-a l = record {
  count : l.count + operators l.here ≡ operators l.fn.e;
  same : row.below row.first_operand (operators l.here) l.here ≡ row.below row.first_operand (operators l.fn.e) l.fn.e;
}

abbrev pub decreases-loop-a : goal.decreases-loop-a
decreases-loop-a l = operators l.here
