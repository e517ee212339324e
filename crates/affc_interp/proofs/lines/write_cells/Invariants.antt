use Rattle.std.proofs.Common.{◌≡◌, ◌++◌, [], take}
use Rattle.affc_interp.specs.DataText.{spaced}
use Rattle.affc_interp.specs.Outputs.{values_held}
use Rattle.affc_interp.proofs.lines.write_cells.Given as goal

abbrev pub invariant-loop-cell : goal.invariant-loop-cell
invariant-loop-cell l = l.out.items ≡ l.fn.out.items ++ spaced (values_held (take l.cell-index l.cells)) []
