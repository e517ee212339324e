use Rattle.std.proofs.Common.{◌∙◌}
use Rattle.affc_names.proofs.LineLaws.{range_at}
use Rattle.affc_names.proofs.lines.range_of.Goals as goal

pub returns : goal.returns
returns c = c.copied.ensures ∙ c.get.ensures.value ∙ range_at c.args.ranges.now.entries c.args.name.now
