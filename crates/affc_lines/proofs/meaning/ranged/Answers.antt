use Rattle.std.proofs.Common.{◌∙◌}
use Rattle.affc_lines.proofs.Meant.{ranged}
use Rattle.affc_lines.proofs.meaning.ranged.Goals as goal

pub returns-in-Ok : goal.returns-in-Ok
returns-in-Ok c source schedule reads has =
    ranged source schedule c.from_string.result c.args.statement c.args.loop_number c.args.program.now c.one_program.ensures.reads reads has (c.from_string.ensures ∙ c.in-Ok.ensures)
