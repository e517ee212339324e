use Rattle.std.proofs.Common.{◌≡◌}
use Rattle.affc_split.specs.Budgets.{IsLater}
use Rattle.affc_certify.proofs.streamed.add_tails.Given as goal

abbrev pub invariant-loop-tail : goal.invariant-loop-tail
invariant-loop-tail l = record {
  later : IsLater l.fn.budget l.budget;
  same : l.written.system.columns ≡ l.initial.written.system.columns;
}
