-- The first mark of what is left is that of the whole list.
use Rattle.std.proofs.Common.{◌≡◌, drop}
use Rattle.affc_lex.specs.Lexes.{lexemes}
use Rattle.affc_driver.specs.Refusals.{first_wide_mark}
use Rattle.affc_driver.proofs.reading.first_wide_mark.Given as goal

abbrev pub invariant-loop-token : goal.invariant-loop-token
invariant-loop-token l = first_wide_mark l.source (lexemes l.source (drop l.token-index l.tokens)) ≡ first_wide_mark l.source (lexemes l.source l.tokens)
