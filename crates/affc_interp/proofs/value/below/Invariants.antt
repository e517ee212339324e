use Rattle.std.proofs.Common.{◌≡◌, ℕ, ◌+◌, ◌≤◌}
use Rattle.affc_interp.specs.Operands as row
use Rattle.affc_interp.specs.Operands.{value_operators}
use Rattle.affc_interp.proofs.value.below.Given as goal

abbrev pub invariant-loop : goal.invariant-loop
invariant-loop l = (k : ℕ) → l.counter + k ≡ l.fn.count → (row.below row.first_value k l.here ≡ row.below row.first_value l.fn.count l.fn.v) × (k ≤ value_operators l.here)
