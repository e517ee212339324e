use Rattle.std.proofs.Common.{map, None, refl, ap, ◌∙◌}
use Rattle.affc_syntax.specs.draft.Drafts.{pragma}
use Rattle.affc_limits.specs.Rests.{rest_of}
use Rattle.affc_limits.specs.Lines.{with_context}
use Rattle.affc_limits.proofs.LineLaws.{passed_all, contexts_are}
use Rattle.affc_limits.proofs.lines.contexts_past.Goals as goal

pub returns : goal.returns
returns c = ap (λ r. r.found) (passed_all with_context pragma (rest_of 17) c.loop-item.rest c.args.items.now c.loop-item.item-index c.loop-item-test.false c.loop-item.invariant) ∙ contexts_are 0 17 None (map pragma c.args.items.now) refl
