use Rattle.std.proofs.Common.{◌≡◌, ℕ, ◌<◌}
use Rattle.affc_leaf.specs.Bounds.{bound_at}
use Rattle.affc_leaf.proofs.bounds.first_free.Given as goal

abbrev pub invariant-loop-j : goal.invariant-loop-j
invariant-loop-j l = (k : ℕ) → k < l.j → (bound_at l.bounds k).low ≡ (bound_at l.bounds k).high
