use Rattle.std.proofs.Common.{◌≡◌, ℕ, ◌≤◌}
use Rattle.std.specs.List.{AllWithin}
use Rattle.affc_basis.specs.Folds.{fold_of}
use Rattle.affc_certify.specs.Certified.{IsFoldShownOf}
use Rattle.affc_certify.specs.Rising.{AreFrom}
use Rattle.affc_certify.proofs.shown.are_shown.Given as goal

abbrev pub invariant-loop-array : goal.invariant-loop-array
invariant-loop-array l = record {
  from : AreFrom 0 l.rest;
  same : (a : ℕ) → l.next ≤ a → fold_of l.rest a ≡ fold_of l.folds a;
  shown : AllWithin (λ s. IsFoldShownOf l.nest s.0.0 (fold_of l.folds s.0.0) s.1) l.shown 0 l.array-index;
}
