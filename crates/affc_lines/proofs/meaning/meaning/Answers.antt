use Rattle.std.proofs.Common.{◌∙◌}
use Rattle.affc_lines.proofs.Meant.{meant}
use Rattle.affc_lines.proofs.meaning.meaning.Goals as goal

pub returns-in-Ok : goal.returns-in-Ok
returns-in-Ok c source schedule reads has =
    meant source schedule c.from_string.result c.args.fault.now c.args.program.now c.one_program.ensures.reads reads has (c.from_string.ensures ∙ c.in-Ok.ensures)
