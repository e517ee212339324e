use Rattle.std.proofs.Common.{◌∙◌}
use Rattle.affc_lines.proofs.Meant.{turned}
use Rattle.affc_lines.proofs.schedule.illegal.Goals as goal

pub returns-in-Ok : goal.returns-in-Ok
returns-in-Ok c source schedule reads has =
    turned source schedule c.from_string.result c.args.p.now c.args.a.now c.args.b.now c.args.program.now c.one_program.ensures.reads reads has (c.from_string.ensures ∙ c.in-Ok.ensures)
