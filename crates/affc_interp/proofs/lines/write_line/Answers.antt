use Rattle.std.proofs.Common.{◌∙◌}
use Rattle.affc_interp.specs.Outputs.{values_held}
use Rattle.affc_interp.proofs.OutputLines.{line_written}
use Rattle.affc_interp.proofs.lines.write_line.Goals as goal

pub returns : goal.returns
returns c =
    line_written c.args.out.now.items c.extend_from_slice.new.self.items c.extend_from_slice-2.new.self.items c.write_cells.new.out.items c.push.new.self.items c.args.name.now c.as_bytes.result.now (values_held c.args.cells.now)
    c.in_ok-extend_from_slice.ensures.items (c.as_bytes.ensures.value ∙ c.as_str.ensures) c.in_ok-extend_from_slice-2.ensures.items c.in_ok-write_cells.ensures c.in_ok-push.ensures.items
