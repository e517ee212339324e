use Rattle.std.proofs.Common.{◌∙◌, ap}
use Rattle.affc_ast.specs.Fits.{outputs}
use Rattle.affc_interp.specs.DataText.{output_text}
use Rattle.affc_interp.proofs.OutputLines.{outputs_written}
use Rattle.affc_interp.proofs.lines.lines.Goals as goal

pub returns : goal.returns
returns c =
    outputs_written c.args.program.now c.as_slice.result.now c.buffers.result.now c.store.inside.memory c.new-out.result.items c.write_lines.new.out.items c.as_slice.ensures c.buffers.ensures.whole c.buffers.ensures.held c.new-out.ensures.items c.in_ok-write_lines.ensures
    ∙ ap (λ s. output_text c.args.program.now (outputs c.args.program.now s)) c.store.view_is
