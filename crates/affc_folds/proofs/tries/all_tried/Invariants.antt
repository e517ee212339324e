use Rattle.std.proofs.Common.{◌≡◌, length}
use Rattle.affc_trace.specs.Dataflow.{LivePair}
use Rattle.affc_split.specs.Budgets.{IsLater}
use Rattle.affc_basis.specs.Listed.{listing}
use Rattle.affc_folds.specs.Tries.{AreTried}
use Rattle.affc_folds.proofs.tries.all_tried.Given as goal

abbrev pub invariant-loop-basis : goal.invariant-loop-basis
invariant-loop-basis g l = record {
  found : AreTried (g.F.Cost.answers l.cost.cost) l.temporary.asked.program.now (LivePair l.temporary.asked.program.now l.temporary.asked.schedule.now) l.budget l.temporary.array.0 (listing (length l.temporary.info.now.extents)) l.found;
  one_each : length l.found ≡ l.basis-index;
  later : IsLater l.initial.budget l.budget;
}
