use Rattle.std.proofs.Common.{map, None, ◌∙◌}
use Rattle.affc_syntax.specs.draft.Drafts.{pragma}
use Rattle.affc_limits.specs.Lines.{with_range}
use Rattle.affc_limits.proofs.LineLaws.{passed_all, ranges_are}
use Rattle.affc_limits.proofs.lines.ranges_past.Goals as goal

pub returns : goal.returns
returns c = passed_all with_range pragma None c.loop-item.found c.args.items.now c.loop-item.item-index c.loop-item-test.false c.loop-item.invariant ∙ ranges_are None (map pragma c.args.items.now)
