use Rattle.std.proofs.Common.{◌≡◌, ◌≤◌, [], take, drop}
use Rattle.affc_wellnamed.specs.Known.{params_known, number_count}
use Rattle.affc_wellnamed.proofs.known.params_known.Given as goal

abbrev pub invariant-loop-at : goal.invariant-loop-at
invariant-loop-at l = record {
  rest : params_known l.prelude l.function (take l.at l.params) (drop l.at l.params) ≡ params_known l.prelude l.function [] l.params;
  count : l.numbers ≡ number_count (take l.at l.params);
  within : l.numbers ≤ l.at;
}
