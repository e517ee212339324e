use Rattle.std.proofs.Common.{◌≤◌, length}
use Rattle.affc_moduli.specs.Ended.{IsCeiling}
use Rattle.affc_moduli.proofs.ceilings.bound_of.Given as goal

abbrev pub invariant-loop-i : goal.invariant-loop-i
invariant-loop-i l = record {
  within : l.i ≤ length l.asked.regions.now;
  ceiling : IsCeiling l.i l.asked.regions.now l.asked.line.fs.now l.asked.line.gs.now l.bound.most;
}
