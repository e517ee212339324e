use Rattle.std.proofs.Common.{[], ◌∷◌, map, ap, ◌∙◌}
use Rattle.affc_grammar.specs.Draft as d
use Rattle.affc_syntax.specs.draft.Drafts.{ix}
use Rattle.affc_limits.specs.Texts.{with_found}
use Rattle.affc_limits.proofs.TextLaws.{gathered, whole_list}
use Rattle.affc_limits.proofs.texts.in_each.Goals as goal

pub returns-clause-found : goal.returns-clause-found
returns-clause-found c = gathered c.args.rule (λ (e : d.IxDraft). e ∷ []) ix c.args.items.now c.loop-item.item-index c.args.before c.loop-item.found c.loop-item-test.false c.loop-item.invariant ∙ ap (with_found c.args.rule c.args.before) (whole_list (map ix c.args.items.now))
