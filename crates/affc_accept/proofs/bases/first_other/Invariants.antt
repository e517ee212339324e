use Rattle.std.proofs.Common.{◌≡◌, ℕ, ◌<◌, true, Some}
use Rattle.std.specs.Prelude.{slice_get}
use Rattle.affc_certvalue.specs.declared.fold.fold.CertFold.{CertFold}
use Rattle.affc_accept.specs.Same.{keeps_basis}
use Rattle.affc_accept.proofs.bases.first_other.Given as goal

abbrev pub invariant-loop-number : goal.invariant-loop-number
invariant-loop-number l = (k : ℕ) (c : CertFold) → k < l.number → slice_get l.folds k ≡ Some c → keeps_basis l.nest l.bases c ≡ true
