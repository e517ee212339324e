-- The tokens of a text.
use Rattle.std.specs.Prelude.{◌≡◌, ℕ, suc, zero, ◌+◌, ◌≤◌, Bool, true, false, not, ◌&&◌, ◌||◌, List, [], ◌∷◌, ◌++◌, length, map, codes, IsTrue, slice_range, if◌then◌else◌}
use Rattle.affc_lex.specs.declared.token.Kind.{Kind}
use Rattle.affc_lex.specs.declared.token.Kind.TheVariants.{Word, Hash, LineEnd}
use Rattle.affc_lex.specs.declared.token.Token.{Token}
use Rattle.affc_lex.specs.declared.piece.What.{What}
use Rattle.affc_lex.specs.declared.piece.What.TheVariants.{Token as of_kind}
use Rattle.affc_lex.specs.declared.piece.Spot.TheVariants.{Fresh}
use Rattle.affc_lex.specs.Bytes.{same, begins}
use Rattle.affc_lex.specs.Pieces.{Piece, text_of, all_stand, spot_behind, is_on_directive}

-- a token with its bytes, which stand from `start` up to `end` in the text
pub record Lexeme : Type 0 where
  pub kind : Kind
  pub bytes : List ℕ
  pub start : ℕ
  pub end : ℕ

-- a token as the text shows it
abbrev pub lexeme : List ℕ → Token → Lexeme
lexeme text token = record { kind = token.kind; bytes = slice_range text token.start token.end; start = token.start; end = token.end }

abbrev pub lexemes : List ℕ → List Token → List Lexeme
lexemes text tokens = map (lexeme text) tokens

-- the token's bytes stand in a text of this length
abbrev pub IsIn : ℕ → Token → Type 0
IsIn n token = (token.start ≤ token.end) × (token.end ≤ n)

-- the tokens stand one behind another, from the first place up to the second
abbrev pub InOrder : ℕ → List Token → ℕ → Type 0
InOrder from [] to = from ≤ to
InOrder from (t ∷ ts) to = (from ≤ t.start) × (t.start ≤ t.end) × InOrder t.end ts to

-- Tokens of pieces

abbrev pub token_of : Kind → List ℕ → ℕ → Lexeme
token_of kind bytes at = record { kind = kind; bytes = bytes; start = at; end = at + length bytes }

abbrev pub token_at : ℕ → What → List ℕ → List Lexeme
token_at at (of_kind kind) bytes = token_of kind bytes at ∷ []
token_at at _ bytes = []

-- the tokens among the pieces, the first of which begins at this place
abbrev pub tokens_from : ℕ → List Piece → List Lexeme
tokens_from at [] = []
tokens_from at (p ∷ ps) = token_at at p.what p.bytes ++ tokens_from (at + length p.bytes) ps

-- Lines that are dropped

abbrev pub is_hash : Kind → Bool
is_hash Hash = true
is_hash _ = false

abbrev pub is_line_end : Kind → Bool
is_line_end LineEnd = true
is_line_end _ = false

abbrev pub is_word_kind : Kind → Bool
is_word_kind Word = true
is_word_kind _ = false

-- whether this is the Word of these bytes
abbrev pub is_named : List ℕ → Lexeme → Bool
is_named name token = is_word_kind token.kind && same token.bytes name

abbrev pub is_scop_name : Lexeme → Bool
is_scop_name token = is_named (codes "scop") token || is_named (codes "endscop") token

-- whether the tokens begin with those of `#pragma scop` or `#pragma endscop`, up to the line's end
abbrev pub begins_scop_line : List Lexeme → Bool
begins_scop_line (hash ∷ first ∷ second ∷ last ∷ others) = is_hash hash.kind && is_named (codes "pragma") first && is_scop_name second && is_line_end last.kind
begins_scop_line _ = false

-- the tokens without those of such lines; `left` more of the first ones belong to one
abbrev pub without_scop_lines : ℕ → List Lexeme → List Lexeme
without_scop_lines left [] = []
without_scop_lines zero (t ∷ ts) = if begins_scop_line (t ∷ ts) then without_scop_lines 3 ts else t ∷ without_scop_lines zero ts
without_scop_lines (suc left) (t ∷ ts) = without_scop_lines left ts

-- Sequences that C reads in another way, and that no text may have

-- a backslash directly before a line feed or a carriage return, or `??/`
abbrev pub is_refused : List ℕ → Bool
is_refused text = begins (codes "\\\n") text || begins (codes "\\\r") text || begins (codes "??/") text

abbrev pub contains_refused : List ℕ → Bool
contains_refused [] = false
contains_refused (b ∷ bs) = is_refused (b ∷ bs) || contains_refused bs

-- The text is made of pieces that stand, and these are its tokens.
pub record Lexes (text : List ℕ) (tokens : List Lexeme) : Type 0 where
  pub pieces : List Piece
  pub spelled : text ≡ text_of pieces
  pub standing : IsTrue (all_stand Fresh pieces [])
  -- a line with `#` has its end
  pub ended : IsTrue (not (is_on_directive (spot_behind Fresh pieces)))
  pub unrefused : IsTrue (not (contains_refused text))
  pub its_tokens : tokens ≡ without_scop_lines 0 (tokens_from 0 pieces)
