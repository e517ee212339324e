-- The pieces of a text: spaces, comments and tokens. What stands at a place is the longest token that can be taken there.
use Rattle.std.specs.Prelude.{ℕ, ◌^◌, Bool, true, false, not, ◌&&◌, ◌||◌, ◌==◌, nat_lt, List, [], ◌∷◌, ◌++◌, codes, if◌then◌else◌}
use Rattle.std.specs.List.{list_all, flat_map}
use Rattle.affc_lex.specs.declared.token.Kind.{Kind}
use Rattle.affc_lex.specs.declared.token.Kind.TheVariants.{Word, Number, Value, Header, Hash, LineEnd, Prelude, Mark}
use Rattle.affc_lex.specs.declared.piece.What.{What}
use Rattle.affc_lex.specs.declared.piece.What.TheVariants.{Space, Comment, Token}
use Rattle.affc_lex.specs.declared.piece.Spot.{Spot}
use Rattle.affc_lex.specs.declared.piece.Spot.TheVariants.{Fresh, Inside, AfterHash, AfterInclude, Directive, DirectiveFresh}
use Rattle.affc_lex.specs.Bytes.{is_digit, is_letter, is_letter_or_digit, is_line_feed, is_space, among, same, begins, next_is, ends_at_first, decimal}

pub record Piece : Type 0 where
  pub what : What
  pub bytes : List ℕ

-- Comments

-- from `//` up to the next line feed, which is no part of it, or to the end of the text
abbrev pub is_line_comment : List ℕ → List ℕ → Bool
is_line_comment bytes after = begins (codes "//") bytes && list_all (λ b. not (is_line_feed b)) bytes && not (next_is (λ b. not (is_line_feed b)) after)

-- from `/*` to the next `*/`
abbrev pub is_block_comment : List ℕ → Bool
is_block_comment (slash ∷ star ∷ inside) = same (slash ∷ star ∷ []) (codes "/*") && ends_at_first (codes "*/") inside
is_block_comment _ = false

-- Tokens by their bytes alone

abbrev pub is_word : List ℕ → Bool
is_word [] = false
is_word (b ∷ bs) = is_letter b && list_all is_letter_or_digit bs

-- `0`, or digits of which the first isn't 0
abbrev pub is_number : List ℕ → Bool
is_number [] = false
is_number (b ∷ []) = is_digit b
is_number (b ∷ bs) = is_digit b && not (b == 48) && list_all is_digit bs

-- the digits at the beginning
abbrev pub leading_digits : List ℕ → List ℕ
leading_digits [] = []
leading_digits (b ∷ bs) = if is_digit b then b ∷ leading_digits bs else []

abbrev pub behind_digits : List ℕ → List ℕ
behind_digits [] = []
behind_digits (b ∷ bs) = if is_digit b then behind_digits bs else b ∷ bs

-- a number directly followed by `ULL`
abbrev pub is_value : List ℕ → Bool
is_value bytes = is_number (leading_digits bytes) && same (behind_digits bytes) (codes "ULL")

-- a number that an unsigned integer of 64 bits holds
abbrev pub is_small : List ℕ → Bool
is_small digits = nat_lt (decimal digits) (2 ^ 64)

-- whether the text ends with its first `>`, and has no line feed
abbrev pub ends_header : List ℕ → Bool
ends_header [] = false
ends_header (b ∷ bs) = if b == 62 then same bs [] else not (is_line_feed b) && ends_header bs

-- from `<` to the first `>`, with no line feed
abbrev pub is_header : List ℕ → Bool
is_header [] = false
is_header (b ∷ bs) = b == 60 && ends_header bs

-- ( ) [ ] { } , ; : + - * & | ^ ~ < > = ! %
-- += -= *= &= |= ^= <= >= == !=   ++ -- && || << >>
-- <<= >>=
abbrev pub is_mark : List ℕ → Bool
is_mark (a ∷ []) = among (codes "()[]{},;:+-*&|^~<>=!%") a
is_mark (a ∷ b ∷ []) = (b == 61 && among (codes "+-*&|^<>=!") a) || (a == b && among (codes "+-&|<>") a)
is_mark (a ∷ b ∷ c ∷ []) = a == b && among (codes "<>") a && c == 61
is_mark _ = false

-- the functions that a printed program may call
abbrev pub prelude : List ℕ
prelude =
    codes "static inline int64_t affc_min(int64_t a, int64_t b) { return a < b ? a : b; }\n"
    ++ codes "static inline int64_t affc_max(int64_t a, int64_t b) { return a > b ? a : b; }\n"
    ++ codes "static inline int64_t affc_floord(int64_t a, int64_t b) { return a / b - (a % b < 0); }\n"
    ++ codes "static inline int64_t affc_ceild(int64_t a, int64_t b) { return a / b + (a % b > 0); }\n"
    ++ codes "static inline int64_t affc_mod(int64_t a, int64_t b) { return a % b + (a % b < 0 ? b : 0); }\n"

-- Tokens before the text that follows them

abbrev pub is_after_hash : Spot → Bool
is_after_hash AfterHash = true
is_after_hash _ = false

abbrev pub is_after_include : Spot → Bool
is_after_include AfterInclude = true
is_after_include _ = false

-- whether a `>` comes before a line feed and the end of the text
abbrev pub closes_header : List ℕ → Bool
closes_header [] = false
closes_header (b ∷ bs) = if b == 62 then true else not (is_line_feed b) && closes_header bs

abbrev pub opens_header : List ℕ → Bool
opens_header [] = false
opens_header (b ∷ bs) = b == 60 && closes_header bs

-- whether a header begins here, behind `#include`
abbrev pub header_begins : Spot → List ℕ → Bool
header_begins spot text = is_after_include spot && opens_header text

-- whether a mark of this text's first two or three bytes stands here
abbrev pub longer_mark : List ℕ → List ℕ → Bool
longer_mark (a ∷ []) (b ∷ c ∷ after) = is_mark (a ∷ b ∷ []) || is_mark (a ∷ b ∷ c ∷ [])
longer_mark (a ∷ []) (b ∷ []) = is_mark (a ∷ b ∷ [])
longer_mark (a ∷ b ∷ []) (c ∷ after) = is_mark (a ∷ b ∷ c ∷ [])
longer_mark _ _ = false

abbrev pub is_on_directive : Spot → Bool
is_on_directive Fresh = false
is_on_directive Inside = false
is_on_directive _ = true

-- whether no token stands between here and the last line feed
abbrev pub is_fresh : Spot → Bool
is_fresh Fresh = true
is_fresh DirectiveFresh = true
is_fresh _ = false

-- whether a token of this kind with these bytes stands at a spot before this text
abbrev pub token_stands : Spot → Kind → List ℕ → List ℕ → Bool
token_stands spot Word bytes after = is_word bytes && not (next_is is_letter_or_digit after) && not (begins prelude (bytes ++ after))
token_stands spot Number bytes after = is_number bytes && is_small bytes && not (next_is is_letter_or_digit after)
token_stands spot Value bytes after = is_value bytes && is_small (leading_digits bytes) && not (next_is is_letter_or_digit after)
token_stands spot Header bytes after = is_after_include spot && is_header bytes
token_stands spot Hash bytes after = is_fresh spot && same bytes (codes "#")
token_stands spot LineEnd bytes after = is_on_directive spot && (same bytes (codes "\n") || (same bytes [] && same after []))
token_stands spot Prelude bytes after = same bytes prelude
token_stands spot Mark bytes after = is_mark bytes && not (longer_mark bytes after) && not (header_begins spot (bytes ++ after))

-- whether a piece with these bytes stands at a spot before this text
abbrev pub stands : Spot → What → List ℕ → List ℕ → Bool
stands spot Space (b ∷ []) after = is_space b && not (is_line_feed b && is_on_directive spot)
stands spot Space _ after = false
stands spot Comment bytes after = is_line_comment bytes after || is_block_comment bytes
stands spot (Token kind) bytes after = token_stands spot kind bytes after

-- Spots

abbrev pub later : Spot → Spot
later spot = if is_on_directive spot then Directive else Inside

abbrev pub after_token : Spot → Kind → List ℕ → Spot
after_token spot Hash bytes = AfterHash
after_token spot LineEnd bytes = Fresh
after_token spot Prelude bytes = if is_on_directive spot then DirectiveFresh else Fresh
after_token spot Word bytes = if is_after_hash spot && same bytes (codes "include") then AfterInclude else later spot
after_token spot kind bytes = later spot

-- where the text behind a piece stands
abbrev pub next_spot : Spot → What → List ℕ → Spot
next_spot spot Space bytes = if same bytes (codes "\n") then Fresh else spot
next_spot spot Comment bytes = spot
next_spot spot (Token kind) bytes = after_token spot kind bytes

-- Texts of pieces

abbrev pub text_of : List Piece → List ℕ
text_of pieces = flat_map (λ p. p.bytes) pieces

-- whether each piece stands, the first one at this spot, where this text follows the last one
abbrev pub all_stand : Spot → List Piece → List ℕ → Bool
all_stand spot [] after = true
all_stand spot (p ∷ ps) after = stands spot p.what p.bytes (text_of ps ++ after) && all_stand (next_spot spot p.what p.bytes) ps after

-- the spot behind the last piece
abbrev pub spot_behind : Spot → List Piece → Spot
spot_behind spot [] = spot
spot_behind spot (p ∷ ps) = spot_behind (next_spot spot p.what p.bytes) ps
