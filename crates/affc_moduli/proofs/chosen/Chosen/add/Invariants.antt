use Rattle.std.proofs.Common.{◌≡◌, ◌++◌, take}
use Rattle.affc_moduli.proofs.chosen.Chosen.add.Given as goal

abbrev pub invariant-loop-row : goal.invariant-loop-row
invariant-loop-row l = record {
  system : l.self.region.system ≡ record l.initial.self.region.system { rows = l.initial.self.region.system.rows ++ take l.row-index l.rows };
  ranges : l.self.region.ranges ≡ l.initial.self.region.ranges;
}
