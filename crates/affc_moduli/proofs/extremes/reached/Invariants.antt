use Rattle.affc_split.specs.Budgets.{IsLater}
use Rattle.affc_split.specs.maximum.Searches.{AreBoundedBefore}
use Rattle.affc_moduli.specs.Asked.{IsSoughtOf}
use Rattle.affc_moduli.proofs.extremes.reached.Given as goal

abbrev pub invariant-loop-i : goal.invariant-loop-i
invariant-loop-i l = record {
  sought : IsSoughtOf l.asked l.aim.start l.sought;
  forward : AreBoundedBefore l.i l.asked.regions.now l.asked.line.fs.now l.sought.level;
  backward : AreBoundedBefore l.i l.asked.regions.now l.asked.line.gs.now l.sought.level;
  later : IsLater l.fn.budget l.budget;
}
