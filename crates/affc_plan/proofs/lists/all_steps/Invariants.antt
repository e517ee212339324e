use Rattle.std.proofs.Common.{◌≡◌, [], drop, reverse}
use Rattle.affc_plan.specs.Firsts.{found_all}
use Rattle.affc_plan.proofs.lists.all_steps.Given as goal

abbrev pub invariant-loop-step : goal.invariant-loop-step
invariant-loop-step l = found_all (drop l.step-index l.steps) (reverse l.numbers.items) ≡ found_all l.steps []
