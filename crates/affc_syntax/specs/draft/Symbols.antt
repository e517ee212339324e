-- What the grammar's definitions see of the parser's types.
use Rattle.affc_grammar.specs.Grammar as g
use Rattle.affc_grammar.specs.Limits as l
use Rattle.affc_syntax.specs.declared.draft.symbol.Symbol.{Symbol}
use Rattle.affc_syntax.specs.declared.draft.passed.Passed.{Passed}

abbrev pub seen : Symbol → g.Symbol
seen s = record { kind = s.kind; bytes = s.text.now }

abbrev pub passed_seen : Passed → l.Passed
passed_seen p = record { at = p.at; which = p.which }
