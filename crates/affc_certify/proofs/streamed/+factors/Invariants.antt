use Rattle.std.proofs.Common.{◌≡◌, ◌+◌, ◌*◌, length}
use Rattle.affc_split.specs.Budgets.{IsLater}
use Rattle.affc_certify.proofs.streamed.+factors.Given as goal

abbrev pub decreases-add_factors : goal.decreases-add_factors
decreases-add_factors l = 3 * length l.factors.now

abbrev pub decreases-add_each : goal.decreases-add_each
decreases-add_each l = 3 * length l.later.now + 2

abbrev pub decreases-add_behind : goal.decreases-add_behind
decreases-add_behind l = 3 * length l.later.now + 1

abbrev pub invariant-add_each-loop-rows : goal.invariant-add_each-loop-rows
invariant-add_each-loop-rows l = record {
  later : IsLater l.initial.budget l.budget;
  same : l.written.system.columns ≡ l.initial.written.system.columns;
}
