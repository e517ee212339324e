use Rattle.affc_lines.proofs.source.program_of.Goals as goal

pub returns-in-Ok-clause-counted : goal.returns-in-Ok-clause-counted
returns-in-Ok-clause-counted c = c.reads_counted.ensures.plain c.args.source.now c.in-Ok.program c.in-Ok.ensures
