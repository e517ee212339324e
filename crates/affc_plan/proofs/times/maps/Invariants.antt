use Rattle.std.proofs.Common.{◌≡◌, ℕ, ◌<◌, length}
use Rattle.affc_plan.specs.Times.{HasMap}
use Rattle.affc_plan.proofs.times.maps.Given as goal

abbrev pub invariant-loop-number : goal.invariant-loop-number
invariant-loop-number l = record {
  long : length l.maps ≡ l.number;
  each : (s : ℕ) → s < l.number → HasMap l.outline l.components l.lines l.maps s;
}
