-- How far the pieces of a text go. The public contract speaks of none of this.
use Rattle.std.specs.Prelude.{◌≡◌, ℕ, ◌+◌, Bool, true, false, not, List, [], ◌∷◌, length, Option, Some, None, All, IsTrue, nat_lt, if◌then◌else◌}
use Rattle.affc_lex.specs.declared.token.Token.{Token}
use Rattle.affc_lex.specs.declared.token.LexFault.{LexFault}
use Rattle.affc_lex.specs.declared.token.LexFault.TheVariants.{BadByte, OpenComment, LongNumber, Memory}
use Rattle.affc_lex.specs.declared.piece.What.{What}
use Rattle.affc_lex.specs.declared.piece.What.TheVariants.{Token as of_kind}
use Rattle.affc_lex.specs.declared.piece.Spot.TheVariants.{Fresh}
use Rattle.affc_lex.specs.declared.piece.Found.{Found}
use Rattle.affc_lex.specs.declared.piece.Found.TheVariants.{Piece as a_piece, Bad, Open, Long}
use Rattle.affc_lex.specs.Pieces.{Piece, text_of, all_stand, spot_behind, is_on_directive}
use Rattle.affc_lex.specs.Lexes.{IsIn, lexemes, tokens_from}
use Rattle.affc_lex.specs.Faults.{Front, place, spot, fault_place}
use Rattle.affc_lex.specs.Reading.{read}

-- the token that a piece is, if it is one
abbrev pub made : What → ℕ → ℕ → List Token
made (of_kind kind) start end = record { kind = kind; start = start; end = end } ∷ []
made _ start end = []

-- The whole text is cut into pieces that stand.
pub record Whole (text : List ℕ) : Type 0 where
  pub pieces : List Piece
  pub spelled : text ≡ text_of pieces
  pub standing : IsTrue (all_stand Fresh pieces [])
  pub ended : IsTrue (not (is_on_directive (spot_behind Fresh pieces)))

-- These are the tokens of the pieces of a whole text.
pub record TokensOf (text : List ℕ) (tokens : List Token) : Type 0 where
  pub whole : Whole text
  pub tokens_are : lexemes text tokens ≡ tokens_from 0 whole.pieces
  pub within : All (IsIn (length text)) tokens

abbrev pub is_piece : Found → Bool
is_piece (a_piece what n) = true
is_piece _ = false

-- Pieces stand up to this place, text follows, and no piece stands there.
pub record Stops (text : List ℕ) (found : Found) (at : ℕ) : Type 0 where
  pub front : Front text
  pub first : ℕ
  pub others : List ℕ
  pub rest_is : front.rest ≡ first ∷ others
  pub found_is : read (spot front) front.rest ≡ found
  pub no_piece : is_piece found ≡ false
  pub at_is : at ≡ place front

abbrev pub fault_of : ℕ → Found → LexFault
fault_of at (Bad n) = BadByte (at + n)
fault_of at Open = OpenComment at
fault_of at Long = LongNumber at
fault_of at (a_piece what n) = Memory

pub record StopsSo (text : List ℕ) (fault : LexFault) : Type 0 where
  pub found : Found
  pub at : ℕ
  pub stops : Stops text found at
  pub fault_is : fault ≡ fault_of at found

-- The fault is that of the place at which the pieces end.
abbrev pub StopsWith : List ℕ → LexFault → Type 0
StopsWith text Memory = Unit {0}
StopsWith text fault = StopsSo text fault

-- a fault, or the first of the two sequences that no text may have, where it comes before
abbrev pub earlier : LexFault → Option ℕ → LexFault
earlier fault None = fault
earlier fault (Some at) = if nat_lt at (fault_place fault) then BadByte at else fault
