use Rattle.affc_grammar.specs.Limits.{pragma_texts}
use Rattle.affc_syntax.specs.draft.Drafts.{pragma}
use Rattle.affc_limits.proofs.TextLaws.{gathered}
use Rattle.affc_limits.proofs.texts.in_pragmas.Goals as goal

pub returns-clause-found : goal.returns-clause-found
returns-clause-found c = gathered c.args.rule pragma_texts pragma c.args.items.now c.loop-item.item-index c.args.before c.loop-item.found c.loop-item-test.false c.loop-item.invariant
