use Rattle.affc_grammar.specs.Limits.{sides}
use Rattle.affc_syntax.specs.draft.Drafts.{compare}
use Rattle.affc_limits.proofs.TextLaws.{gathered}
use Rattle.affc_limits.proofs.texts.in_comparisons.Goals as goal

pub returns-clause-found : goal.returns-clause-found
returns-clause-found c = gathered c.args.rule sides compare c.args.items.now c.loop-item.item-index c.args.before c.loop-item.found c.loop-item-test.false c.loop-item.invariant
