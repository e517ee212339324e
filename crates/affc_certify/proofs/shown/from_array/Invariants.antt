use Rattle.std.proofs.Common.{◌≡◌, ℕ, ◌≤◌, length}
use Rattle.affc_basis.specs.Folds.{fold_of}
use Rattle.affc_certify.specs.Rising.{AreFrom}
use Rattle.affc_certify.proofs.shown.from_array.Given as goal

abbrev pub invariant-loop-rest : goal.invariant-loop-rest
invariant-loop-rest l = record {
  from : AreFrom 0 l.rest;
  same : (a : ℕ) → l.array ≤ a → fold_of l.rest a ≡ fold_of l.folds a;
}

abbrev pub decreases-loop-rest : goal.decreases-loop-rest
decreases-loop-rest l = length l.rest
