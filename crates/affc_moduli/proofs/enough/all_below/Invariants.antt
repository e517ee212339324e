use Rattle.affc_split.specs.Budgets.{IsLater}
use Rattle.affc_moduli.specs.Enough.{AreBelowBefore}
use Rattle.affc_moduli.proofs.enough.all_below.Given as goal

abbrev pub invariant-loop-i : goal.invariant-loop-i
invariant-loop-i l = record {
  below : AreBelowBefore l.i l.regions l.forms l.modulus;
  later : IsLater l.fn.budget l.budget;
}
