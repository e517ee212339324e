use Rattle.std.proofs.Common.{◌≡◌, ◌++◌, drop}
use Rattle.affc_leaf.specs.Boxed.{box_rows}
use Rattle.affc_leaf.proofs.boxed.boxed_system.Given as goal

abbrev pub invariant-loop-j : goal.invariant-loop-j
invariant-loop-j l = record {
  columns : l.boxed.columns ≡ l.system.columns;
  rows : l.boxed.rows ++ box_rows l.system.columns l.j (drop l.j l.ranges) ≡ l.system.rows ++ box_rows l.system.columns 0 l.ranges;
}
