use Rattle.std.proofs.Common.{◌-◌, length, take, drop}
use Rattle.std.proofs.lemmas.Result.{on_ok_weaker}
use Rattle.affc_ast.specs.declared.tree.Param.TheVariants.{Array}
use Rattle.affc_interp.specs.Outputs.{cells_of}
use Rattle.affc_interp.proofs.Lists.{first_and_rest}
use Rattle.affc_interp.proofs.OutputLines.{written_output}
use Rattle.affc_interp.proofs.lines.+write_lines.Goals as goal

pub returns-in_ok-write_output-in-Array : goal.returns-in_ok-write_output-in-Array
returns-in_ok-write_output-in-Array t c =
    let ps = c.args.params.now in
    on_ok_weaker c.write_lines-in-Array.result
    (written_output ps (take (length ps - 1) (drop 1 ps)) c.in-Array.decl (cells_of c.args.buffers.now) (cells_of c.other_buffers.result.now) c.args.out.now.items c.write_output.new.out.items c.write_lines-in-Array.new.out.items c.first_cells.result.now
    (first_and_rest ps c.param-item.result (Array c.in-Array.decl) c.in-len1-up.len_at_least c.param-item.is c.in-Array.is) c.first_cells.ensures c.other_buffers.ensures c.in_ok-write_output-in-Array.ensures)
    c.write_lines-in-Array.ensures
