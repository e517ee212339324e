-- What an answer on the next piece says of the text, in the words of the public definitions.
use Rattle.std.specs.Prelude.{◌≡◌, ◌⊎◌, ℕ, ◌<◌, ◌≤◌, ◌^◌, true, not, List, ◌++◌, length, take, drop, codes}
use Rattle.affc_lex.specs.declared.piece.What.{What}
use Rattle.affc_lex.specs.declared.piece.Spot.{Spot}
use Rattle.affc_lex.specs.declared.piece.Found.{Found}
use Rattle.affc_lex.specs.declared.piece.Found.TheVariants.{Piece, Bad, Open, Long}
use Rattle.affc_lex.specs.Bytes.{is_letter_or_digit, next_is, contains, decimal}
use Rattle.affc_lex.specs.Pieces.{stands, is_number}
use Rattle.affc_lex.specs.Faults.{piece_begins, is_longest_literal}

-- a piece of n bytes stands at the beginning
pub record StandsFor (spot : Spot) (what : What) (n : ℕ) (text : List ℕ) : Type 0 where
  pub some : 0 < n
  pub within : n ≤ length text
  pub standing : stands spot what (take n text) (drop n text) ≡ true

-- a number or value of n bytes doesn't end where it has to
pub record IsStuck (n : ℕ) (text : List ℕ) : Type 0 where
  pub within : n ≤ length text
  pub longest : is_longest_literal (take n text) (drop n text) ≡ true
  pub stuck : next_is is_letter_or_digit (drop n text) ≡ true

pub record OpensHere (text : List ℕ) : Type 0 where
  pub inside : List ℕ
  pub opens : text ≡ codes "/*" ++ inside
  pub open_end : not (contains (codes "*/") inside) ≡ true

pub record LongHere (text : List ℕ) : Type 0 where
  pub digits : List ℕ
  pub after : List ℕ
  pub begins_so : text ≡ digits ++ after
  pub number : is_number digits ≡ true
  pub long : 2 ^ 64 ≤ decimal digits

abbrev pub FoundAt : Spot → List ℕ → Found → Type 0
FoundAt spot text (Piece what n) = StandsFor spot what n text
FoundAt spot text (Bad n) = ((n ≡ 0) × (not (piece_begins spot text) ≡ true)) ⊎ IsStuck n text
FoundAt spot text Open = OpensHere text
FoundAt spot text Long = LongHere text
