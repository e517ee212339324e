-- The faults of a text that has no tokens.
use Rattle.std.specs.Prelude.{◌≡◌, ◌⊎◌, ℕ, ◌+◌, ◌≤◌, ◌^◌, Bool, not, ◌&&◌, ◌||◌, List, [], ◌∷◌, ◌++◌, length, codes, IsTrue}
use Rattle.affc_lex.specs.declared.token.LexFault.{LexFault}
use Rattle.affc_lex.specs.declared.token.LexFault.TheVariants.{BadByte, OpenComment, LongNumber, Memory}
use Rattle.affc_lex.specs.declared.piece.Spot.{Spot}
use Rattle.affc_lex.specs.declared.piece.Spot.TheVariants.{Fresh}
use Rattle.affc_lex.specs.Bytes.{is_digit, is_letter, is_letter_or_digit, is_space, same, begins, next_is, contains, decimal}
use Rattle.affc_lex.specs.Pieces.{Piece, text_of, all_stand, spot_behind, is_fresh, is_number, is_value, is_mark}
use Rattle.affc_lex.specs.Lexes.{is_refused}

-- pieces that stand from the beginning of the text on, and what follows them
pub record Front (text : List ℕ) : Type 0 where
  pub pieces : List Piece
  pub rest : List ℕ
  pub spelled : text ≡ text_of pieces ++ rest
  pub standing : IsTrue (all_stand Fresh pieces rest)

abbrev pub place : {text : List ℕ} → Front text → ℕ
place front = length (text_of front.pieces)

abbrev pub spot : {text : List ℕ} → Front text → Spot
spot front = spot_behind Fresh front.pieces

-- whether a space, a comment or a token begins here
abbrev pub piece_begins : Spot → List ℕ → Bool
piece_begins here text =
    next_is is_space text || begins (codes "//") text || begins (codes "/*") text || next_is is_letter text || next_is is_digit text || next_is (λ b. is_mark (b ∷ [])) text || (begins (codes "#") text && is_fresh here)

-- whether these bytes are the longest number or value that can be taken before this text
abbrev pub is_longest_literal : List ℕ → List ℕ → Bool
is_longest_literal bytes after = is_value bytes || (is_number bytes && not (begins (codes "ULL") after) && (same bytes (codes "0") || not (next_is is_digit after)))

-- One of the two refused sequences begins at the place.
pub record RefusedAt (text : List ℕ) (at : ℕ) : Type 0 where
  pub before : List ℕ
  pub after : List ℕ
  pub spelled : text ≡ before ++ after
  pub refused : IsTrue (is_refused after)
  pub is_at : at ≡ length before

-- No piece begins at the place, which isn't the end.
pub record NothingAt (text : List ℕ) (at : ℕ) : Type 0 where
  pub front : Front text
  pub byte : ℕ
  pub after : List ℕ
  pub goes_on : front.rest ≡ byte ∷ after
  pub nothing : IsTrue (not (piece_begins (spot front) front.rest))
  pub is_at : at ≡ place front

-- A digit, a letter or `_` stands at the place, directly behind a number or a value.
pub record StuckAt (text : List ℕ) (at : ℕ) : Type 0 where
  pub front : Front text
  pub literal : List ℕ
  pub after : List ℕ
  pub goes_on : front.rest ≡ literal ++ after
  pub longest : IsTrue (is_longest_literal literal after)
  pub stuck : IsTrue (next_is is_letter_or_digit after)
  pub is_at : at ≡ place front + length literal

-- A comment without its end begins at the place.
pub record OpenAt (text : List ℕ) (at : ℕ) : Type 0 where
  pub front : Front text
  pub inside : List ℕ
  pub opens : front.rest ≡ codes "/*" ++ inside
  pub open_end : IsTrue (not (contains (codes "*/") inside))
  pub is_at : at ≡ place front

-- A number of 2^64 or more begins at the place.
pub record LongAt (text : List ℕ) (at : ℕ) : Type 0 where
  pub front : Front text
  pub digits : List ℕ
  pub after : List ℕ
  pub begins_so : front.rest ≡ digits ++ after
  pub number : IsTrue (is_number digits)
  pub long : 2 ^ 64 ≤ decimal digits
  pub is_at : at ≡ place front

-- The fault stands in the text.
abbrev pub IsFault : List ℕ → LexFault → Type 0
IsFault text (BadByte at) = RefusedAt text at ⊎ (NothingAt text at ⊎ StuckAt text at)
IsFault text (OpenComment at) = OpenAt text at
IsFault text (LongNumber at) = LongAt text at
IsFault text Memory = ⊥

abbrev pub fault_place : LexFault → ℕ
fault_place (BadByte at) = at
fault_place (OpenComment at) = at
fault_place (LongNumber at) = at
fault_place Memory = 0

-- The fault stands in the text, and none stands before it. Of want of memory nothing is said.
abbrev pub FirstFault : List ℕ → LexFault → Type 0
FirstFault text Memory = Unit {0}
FirstFault text fault = IsFault text fault × ((other : LexFault) → IsFault text other → fault_place fault ≤ fault_place other)
