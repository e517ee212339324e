-- The text of the grammar that tokens are, and its draft.
use Rattle.std.specs.Prelude.{◌≡◌, List, map}
use Rattle.affc_lex.specs.Lexes.{Lexeme}
use Rattle.affc_grammar.specs.Grammar.{Text, text_symbols}
use Rattle.affc_grammar.specs.Draft.{TextDraft, text_draft}
use Rattle.affc_parse.specs.Shown.{shown}

-- The tokens, as they are shown, are those of a text of the grammar, and this is its draft.
pub record IsWritten (tokens : List Lexeme) (draft : TextDraft) : Type 0 where
  pub written : Text
  pub spelled : map shown tokens ≡ text_symbols written
  pub its_draft : draft ≡ text_draft written
