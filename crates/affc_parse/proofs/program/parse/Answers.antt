use Rattle.std.proofs.Common.{◌≡◌, true}
use Rattle.affc_lex.specs.Lexes.{lexemes}
use Rattle.affc_parse.proofs.TokenBytes.{tokens_fit}
use Rattle.affc_parse.proofs.program.parse.Goals as goal

pub symbols_of-requires-clause-fits : goal.symbols_of-requires-clause-fits
symbols_of-requires-clause-fits c = rw (c.deref.ensures.value) (tokens_fit c.args.text.now (lexemes c.args.text.now c.in_ok-tokens.tokens.items) c.in_ok-tokens.ensures.tokens.lexes)
