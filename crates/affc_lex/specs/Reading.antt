-- What the next piece of a text is, found from its first bytes on. The public contract speaks of the pieces that stand, and of none of this.
use Rattle.std.specs.Prelude.{ℕ, suc, ◌+◌, Bool, false, not, ◌&&◌, ◌==◌, List, [], ◌∷◌, take, drop, length, codes, Option, Some, None, if◌then◌else◌}
use Rattle.std.specs.List.{prefix_len}
use Rattle.std.specs.Option.{option_map}
use Rattle.affc_lex.specs.declared.token.Kind.TheVariants.{Word, Number, Value, Header, Hash, LineEnd, Prelude, Mark}
use Rattle.affc_lex.specs.declared.piece.What.TheVariants.{Space, Comment, Token}
use Rattle.affc_lex.specs.declared.piece.Spot.{Spot}
use Rattle.affc_lex.specs.declared.piece.Found.{Found}
use Rattle.affc_lex.specs.declared.piece.Found.TheVariants.{Piece, Bad, Open, Long}
use Rattle.affc_lex.specs.Bytes.{is_digit, is_letter, is_letter_or_digit, is_line_feed, is_space, begins, next_is}
use Rattle.affc_lex.specs.Pieces.{is_mark, is_small, is_on_directive, is_after_include, is_fresh, prelude}

-- the first place at which the text that begins there passes the test
abbrev pub first_place : (List ℕ → Bool) → List ℕ → Option ℕ
first_place test [] = None
first_place test (b ∷ bs) = if test (b ∷ bs) then Some 0 else option_map suc (first_place test bs)

abbrev pub other_than_line_feed : ℕ → Bool
other_than_line_feed b = not (is_line_feed b)

-- how long the comment is whose first byte is a slash before this text
abbrev pub block_comment : Option ℕ → Found
block_comment None = Open
block_comment (Some n) = Piece Comment (n + 4)

abbrev pub comment : List ℕ → Found
comment [] = Bad 0
comment (b ∷ inside) =
    if b == 47 then Piece Comment (2 + prefix_len other_than_line_feed inside) else if b == 42 then block_comment (first_place (begins (codes "*/")) inside) else Bad 0

abbrev pub word : List ℕ → Found
word text = if begins prelude text then Piece (Token Prelude) 426 else Piece (Token Word) (prefix_len is_letter_or_digit text)

-- how many bytes the number has that begins with this byte
abbrev pub number_length : ℕ → List ℕ → ℕ
number_length first text = if first == 48 then 1 else prefix_len is_digit text

abbrev pub literal_of : ℕ → List ℕ → Found
literal_of n text =
    if begins (codes "ULL") (drop n text)
    then (if next_is is_letter_or_digit (drop (n + 3) text) then Bad (n + 3) else Piece (Token Value) (n + 3))
    else (if next_is is_letter_or_digit (drop n text) then Bad n else Piece (Token Number) n)

abbrev pub literal : ℕ → List ℕ → Found
literal first text = if is_small (take (number_length first text) text) then literal_of (number_length first text) text else Long

abbrev pub inside_header : ℕ → Bool
inside_header b = not (b == 62) && not (is_line_feed b)

-- how long the header is that begins here
abbrev pub header_behind : ℕ → List ℕ → Option ℕ
header_behind n text = if next_is (λ b. b == 62) (drop n text) then Some (n + 2) else None

abbrev pub header : List ℕ → Option ℕ
header [] = None
header (b ∷ bs) = if b == 60 then header_behind (prefix_len inside_header bs) bs else None

abbrev pub header_at : Spot → List ℕ → Option ℕ
header_at spot text = if is_after_include spot then header text else None

abbrev pub one_byte_mark : List ℕ → Bool
one_byte_mark (a ∷ text) = is_mark (a ∷ [])
one_byte_mark _ = false

abbrev pub two_byte_mark : List ℕ → Bool
two_byte_mark (a ∷ b ∷ text) = is_mark (a ∷ b ∷ [])
two_byte_mark _ = false

abbrev pub three_byte_mark : List ℕ → Bool
three_byte_mark (a ∷ b ∷ c ∷ text) = is_mark (a ∷ b ∷ c ∷ [])
three_byte_mark _ = false

-- how long the longest mark is that begins here
abbrev pub mark_length : List ℕ → ℕ
mark_length text = if three_byte_mark text then 3 else if two_byte_mark text then 2 else if one_byte_mark text then 1 else 0

abbrev pub mark_of : ℕ → Found
mark_of length = if length == 0 then Bad 0 else Piece (Token Mark) length

abbrev pub mark : Option ℕ → List ℕ → Found
mark (Some header) text = Piece (Token Header) header
mark None text = mark_of (mark_length text)

abbrev pub space : Spot → ℕ → Found
space spot b = if is_line_feed b && is_on_directive spot then Piece (Token LineEnd) 1 else Piece Space 1

abbrev pub hash : Spot → Found
hash spot = if is_fresh spot then Piece (Token Hash) 1 else Bad 0

-- the next piece of the text, or why there is none
abbrev pub read : Spot → List ℕ → Found
read spot [] = Bad 0
read spot (b ∷ bs) =
    if is_space b then space spot b
    else if b == 47 then comment bs
    else if is_letter b then word (b ∷ bs)
    else if is_digit b then literal b (b ∷ bs)
    else if b == 35 then hash spot
    else mark (header_at spot (b ∷ bs)) (b ∷ bs)
