use Rattle.std.proofs.Common.{◌≡◌, ◌++◌, take}
use Rattle.affc_products.specs.Chosen.{rows_of}
use Rattle.affc_products.proofs.walk.push_all.Given as goal

abbrev pub invariant-loop-row : goal.invariant-loop-row
invariant-loop-row l = rows_of l.chosen.items ≡ rows_of l.initial.chosen.items ++ take l.row-index l.rows
