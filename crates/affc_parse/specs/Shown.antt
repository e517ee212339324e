-- Tokens as the reading of the grammar sees them: with a text in UTF-8 each. Only a Header may have other bytes, and no program has one but `<stdint.h>`.
use Rattle.std.specs.Prelude.{Bool, true, false, ◌&&◌, ◌||◌, ℕ, List, [], codes, if◌then◌else◌}
use Rattle.affc_lex.specs.declared.token.Kind.{Kind}
use Rattle.affc_lex.specs.declared.token.Kind.TheVariants.{Word, Number, Value, Header, Hash, LineEnd, Prelude, Mark}
use Rattle.affc_lex.specs.Bytes.{same}
use Rattle.affc_lex.specs.Lexes.{Lexeme}
use Rattle.affc_lex.specs.Pieces.{prelude, is_word, is_number, is_value, is_small, leading_digits, is_mark}
use Rattle.affc_grammar.specs.Grammar.{Symbol}

-- what the bytes of a token are, by its kind
abbrev pub are_bytes : Kind → List ℕ → Bool
are_bytes Word bytes = is_word bytes
are_bytes Number bytes = is_number bytes && is_small bytes
are_bytes Value bytes = is_value bytes && is_small (leading_digits bytes)
are_bytes Header bytes = true
are_bytes Hash bytes = same bytes (codes "#")
are_bytes LineEnd bytes = same bytes (codes "\n") || same bytes []
are_bytes Prelude bytes = same bytes prelude
are_bytes Mark bytes = is_mark bytes

-- another header than the program's is shown as an empty one
abbrev pub shown_bytes : Kind → List ℕ → List ℕ
shown_bytes Header bytes = if same bytes (codes "<stdint.h>") then codes "<stdint.h>" else codes "<>"
shown_bytes _ bytes = bytes

abbrev pub shown : Lexeme → Symbol
shown t = record { kind = t.kind; bytes = shown_bytes t.kind t.bytes }

abbrev pub is_header_kind : Kind → Bool
is_header_kind Header = true
is_header_kind _ = false

abbrev pub fits : Lexeme → Bool
fits t = are_bytes t.kind t.bytes
