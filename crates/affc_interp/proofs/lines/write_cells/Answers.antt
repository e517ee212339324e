use Rattle.affc_interp.proofs.OutputLines.{cells_further}
use Rattle.affc_interp.proofs.lines.write_cells.Goals as goal

pub loop-cell-preserved : goal.loop-cell-preserved
loop-cell-preserved c = cells_further c.args.out.now.items c.loop-cell.out.items c.write_cell.new.out.items c.args.cells.now c.loop-cell.cell-index c.loop-cell-test.true c.loop-cell.invariant c.in_ok-write_cell.ensures
