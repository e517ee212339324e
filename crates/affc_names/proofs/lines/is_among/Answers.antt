use Rattle.std.proofs.Common.{◌∙◌}
use Rattle.affc_names.proofs.LineLaws.{among}
use Rattle.affc_names.proofs.lines.is_among.Goals as goal

pub returns : goal.returns
returns c = c.contains.ensures ∙ among c.args.name.now c.args.names.now.keys
