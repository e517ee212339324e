use Rattle.std.proofs.Common.{Vec, Global}
use Rattle.affc_lex.specs.declared.token.Token.{Token}
use Rattle.affc_lex.specs.Lexes.{lexemes}
use Rattle.affc_lex.proofs.Exact.{only_these}
use Rattle.affc_lex.proofs.Order.{answered_in_order}
use Rattle.affc_lex.proofs.lex.Goals as goal

pub returns-clause-only : goal.returns-clause-only
returns-clause-only c = only_these c.args.text.now (λ (v : Vec Token Global). lexemes c.args.text.now v.items) c.read_text.result c.read_text.ensures.tokens c.read_text.ensures.fault

pub returns-clause-order : goal.returns-clause-order
returns-clause-order c = answered_in_order c.args.text.now c.read_text.result c.read_text.ensures.tokens
