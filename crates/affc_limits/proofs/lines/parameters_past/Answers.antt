use Rattle.std.proofs.Common.{map, ap, ◌∙◌}
use Rattle.affc_syntax.specs.draft.Drafts.{param}
use Rattle.affc_limits.specs.Rests.{rest_of}
use Rattle.affc_limits.specs.Lines.{with_param}
use Rattle.affc_limits.proofs.LineLaws.{passed_all, parameters_are}
use Rattle.affc_limits.proofs.lines.parameters_past.Goals as goal

pub returns : goal.returns
returns c = ap (λ r. r.found) (passed_all with_param param (rest_of 4) c.loop-item.rest c.args.items.now c.loop-item.item-index c.loop-item-test.false c.loop-item.invariant) ∙ parameters_are (map param c.args.items.now)
