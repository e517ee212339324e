use Rattle.std.proofs.Common.{◌∙◌}
use Rattle.affc_lines.proofs.Meant.{unwritten}
use Rattle.affc_lines.proofs.meaning.unwritten.Goals as goal

pub returns-in-Ok : goal.returns-in-Ok
returns-in-Ok c source schedule reads has =
    unwritten source schedule c.from_string.result c.args.access c.args.p.now c.args.instance.now c.args.program.now c.one_program.ensures.reads reads has (c.from_string.ensures ∙ c.in-Ok.ensures)
