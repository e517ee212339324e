use Rattle.std.proofs.Common.{◌≡◌, ◌+◌, ◌≤◌, drop, length}
use Rattle.affc_domain.specs.Loops.{shared}
use Rattle.affc_order.proofs.order.shared.Given as goal

abbrev pub invariant-loop-i : goal.invariant-loop-i
invariant-loop-i l = record {
  first : l.i ≤ length l.ls;
  second : l.i ≤ length l.ms;
  rest : l.i + shared (drop l.i l.ls) (drop l.i l.ms) ≡ shared l.ls l.ms;
}
