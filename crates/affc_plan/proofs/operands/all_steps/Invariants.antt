use Rattle.std.proofs.Common.{◌≡◌, [], drop, reverse, All}
use Rattle.affc_plan.specs.Operands.{IsOperandOver, found_all}
use Rattle.affc_plan.specs.Seen.{columns_seen}
use Rattle.affc_plan.proofs.operands.all_steps.Given as goal

abbrev pub invariant-loop-step : goal.invariant-loop-step
invariant-loop-step l =
    (found_all (columns_seen l.columns) (drop l.step-index l.steps) (reverse l.operands.items) ≡ found_all (columns_seen l.columns) l.steps []) × All (IsOperandOver l.columns.count) l.operands.items
