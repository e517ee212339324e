use Rattle.affc_grammar.specs.Draft as d
use Rattle.affc_syntax.specs.draft.Drafts.{decl}
use Rattle.affc_limits.proofs.TextLaws.{gathered}
use Rattle.affc_limits.proofs.texts.in_decls.Goals as goal

pub returns-clause-found : goal.returns-clause-found
returns-clause-found c = gathered c.args.rule (λ (k : d.DeclDraft). k.extents) decl c.args.items.now c.loop-item.item-index c.args.before c.loop-item.found c.loop-item-test.false c.loop-item.invariant
