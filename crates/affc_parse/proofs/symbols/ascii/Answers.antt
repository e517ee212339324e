use Rattle.affc_parse.proofs.Ascii.{token_utf8}
use Rattle.affc_parse.proofs.symbols.ascii.Goals as goal

pub returns-in-Err : goal.returns-in-Err
returns-in-Err c = absurd (c.in-Err.ensures.cases.0 (token_utf8 c.args.kind c.args.bytes.now c.requires.fits c.requires.other))
