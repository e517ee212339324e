-- Calls among tokens.
use Rattle.std.specs.Prelude.{Bool, false, ◌&&◌, List, ◌∷◌, codes}
use Rattle.affc_lex.specs.Bytes.{same}
use Rattle.affc_grammar.specs.Grammar.{Symbol, is_word_kind, is_mark_kind}

-- whether a Word stands first, directly before a "("
abbrev pub begins_call : List Symbol → Bool
begins_call (f ∷ s ∷ others) = is_word_kind f.kind && is_mark_kind s.kind && same s.bytes (codes "(")
begins_call _ = false
