use Rattle.std.proofs.Common.{◌≡◌, take}
use Rattle.affc_products.specs.Chosen.{rows_of}
use Rattle.affc_products.proofs.chosen.copies.Given as goal

abbrev pub invariant-loop-row : goal.invariant-loop-row
invariant-loop-row l = record {
  columns : l.system.columns ≡ l.columns;
  rows : l.system.rows ≡ take l.row-index (rows_of l.rows);
}
