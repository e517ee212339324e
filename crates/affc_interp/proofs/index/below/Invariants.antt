use Rattle.std.proofs.Common.{◌≡◌, ℕ, ◌+◌, ◌≤◌}
use Rattle.affc_interp.specs.Operands as row
use Rattle.affc_interp.specs.Operands.{operators}
use Rattle.affc_interp.proofs.index.below.Given as goal

abbrev pub invariant-loop : goal.invariant-loop
invariant-loop l = (k : ℕ) → l.counter + k ≡ l.fn.count → (row.below row.first_operand k l.here ≡ row.below row.first_operand l.fn.count l.fn.e) × (k ≤ operators l.here)
