use Rattle.affc_syntax.proofs.Readers.{first_is}
use Rattle.affc_syntax.proofs.ahead.first.Goals as goal

pub returns-then-at-symbols : goal.returns-then-at-symbols
returns-then-at-symbols c = (first_is c.args.symbols.now c.args.at c.index-symbols-at.result c.if-at-symbols.true c.index-symbols-at.is, c.if-at-symbols.true)
