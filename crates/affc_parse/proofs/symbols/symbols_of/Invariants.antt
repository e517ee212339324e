use Rattle.std.proofs.Common.{◌≡◌, map, take}
use Rattle.affc_lex.specs.Lexes.{lexemes}
use Rattle.affc_syntax.specs.draft.Symbols.{seen}
use Rattle.affc_parse.specs.Shown.{shown}
use Rattle.affc_parse.proofs.symbols.symbols_of.Given as goal

abbrev pub invariant-loop-token : goal.invariant-loop-token
invariant-loop-token l = map seen l.symbols.items ≡ map shown (lexemes l.text (take l.token-index l.tokens))
