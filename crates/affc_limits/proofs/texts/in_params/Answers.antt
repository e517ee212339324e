use Rattle.affc_grammar.specs.Limits.{param_texts}
use Rattle.affc_syntax.specs.draft.Drafts.{param}
use Rattle.affc_limits.proofs.TextLaws.{gathered}
use Rattle.affc_limits.proofs.texts.in_params.Goals as goal

pub returns-clause-found : goal.returns-clause-found
returns-clause-found c = gathered c.args.rule param_texts param c.args.items.now c.loop-item.item-index c.args.before c.loop-item.found c.loop-item-test.false c.loop-item.invariant
