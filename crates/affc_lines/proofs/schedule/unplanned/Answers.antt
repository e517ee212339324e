use Rattle.std.proofs.Common.{◌∙◌}
use Rattle.affc_lines.proofs.Meant.{unplanned}
use Rattle.affc_lines.proofs.schedule.unplanned.Goals as goal

pub returns-in-Ok : goal.returns-in-Ok
returns-in-Ok c source schedule reads has =
    unplanned source schedule c.from_string.result c.args.fault.now c.args.program.now c.one_program.ensures.reads reads has (c.from_string.ensures ∙ c.in-Ok.ensures)
