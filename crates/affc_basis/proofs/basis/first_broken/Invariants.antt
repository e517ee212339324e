use Rattle.std.proofs.Common.{ℕ, ◌<◌}
use Rattle.affc_basis.specs.Bases.{IsComponent}
use Rattle.affc_basis.proofs.basis.first_broken.Given as goal

abbrev pub invariant-loop-k : goal.invariant-loop-k
invariant-loop-k l = (j : ℕ) → j < l.k → IsComponent l.rows l.inverse j
