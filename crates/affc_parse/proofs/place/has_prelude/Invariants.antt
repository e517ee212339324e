use Rattle.std.proofs.Common.{◌≡◌, map}
use Rattle.affc_syntax.specs.draft.Symbols.{seen}
use Rattle.affc_grammar.specs.Reads.{has_prelude}
use Rattle.affc_parse.proofs.Places.{prelude_from}
use Rattle.affc_parse.proofs.place.has_prelude.Given as goal

abbrev pub invariant-loop-symbol : goal.invariant-loop-symbol
invariant-loop-symbol l = has_prelude (map seen l.symbols) ≡ prelude_from l.symbols l.symbol-index
