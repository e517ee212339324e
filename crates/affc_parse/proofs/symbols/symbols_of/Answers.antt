use Rattle.affc_parse.proofs.TokenBytes.{fits_at}
use Rattle.affc_parse.proofs.symbols.symbols_of.Goals as goal

pub symbol_of-requires-clause-fits : goal.symbol_of-requires-clause-fits
symbol_of-requires-clause-fits c = fits_at c.args.text.now c.args.tokens.now c.loop-token.token-index _ c.loop-token-test.true c.requires.fits
