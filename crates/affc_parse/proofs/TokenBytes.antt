-- The bytes of tokens.
use Rattle.std.proofs.Common.{◌≡◌, ℕ, zero, suc, ◌+◌, ◌<◌, arith, slice_index_or, Bool, true, false, ◌&&◌, ◌||◌, cond, List, [], ◌∷◌, ◌++◌, length, refl, ap, ◌∙◌, codes}
use Rattle.std.specs.List.{list_all}
use Rattle.affc_lex.specs.declared.token.Kind.{Kind}
use Rattle.affc_lex.specs.declared.token.Kind.TheVariants.{Word, Number, Value, Header, Hash, LineEnd, Prelude, Mark}
use Rattle.affc_lex.specs.declared.piece.What.{What}
use Rattle.affc_lex.specs.declared.piece.What.TheVariants.{Space, Comment, Token as of_kind}
use Rattle.affc_lex.specs.declared.piece.Spot.{Spot}
use Rattle.affc_lex.specs.declared.piece.Spot.TheVariants.{Fresh}
use Rattle.affc_lex.specs.Bytes.{same}
use Rattle.affc_lex.specs.Pieces.{Piece, is_on_directive, text_of, stands, token_stands, all_stand, next_spot}
use Rattle.affc_lex.specs.declared.token.Token.{Token}
use Rattle.affc_lex.specs.Lexes.{Lexeme, lexeme, lexemes, Lexes, tokens_from, token_at, without_scop_lines, begins_scop_line}
use Rattle.affc_parse.specs.Shown.{are_bytes, fits}

pub both : (a b : Bool) → (a && b) ≡ true → (a ≡ true) × (b ≡ true)
both true b h = (refl, h)
both false b h = absurd (cc)

line_end : (a b : Bool) (c : Bool) → (a || (b && c)) ≡ true → (a || b) ≡ true
line_end true b c h = refl
line_end false true c h = refl
line_end false false c h = absurd (cc)

token_bytes : (spot : Spot) (k : Kind) (bytes after : List ℕ) → token_stands spot k bytes after ≡ true → are_bytes k bytes ≡ true
token_bytes spot Word bytes after h = (both _ _ (both _ _ h).0).0
token_bytes spot Number bytes after h = (both _ _ h).0
token_bytes spot Value bytes after h = (both _ _ h).0
token_bytes spot Header bytes after h = refl
token_bytes spot Hash bytes after h = (both _ _ h).1
token_bytes spot LineEnd bytes after h =
    line_end (same bytes (codes "\n")) (same bytes []) (same after []) (both (is_on_directive spot) (same bytes (codes "\n") || (same bytes [] && same after [])) h).1
token_bytes spot Prelude bytes after h = h
token_bytes spot Mark bytes after h = (both _ _ (both _ _ h).0).0

all_both : (ts us : List Lexeme) → list_all fits ts ≡ true → list_all fits us ≡ true → list_all fits (ts ++ us) ≡ true
all_both [] us h k = k
all_both (t ∷ ts) us h k =
    let p = both (fits t) (list_all fits ts) h in
    ap (λ b. b && list_all fits (ts ++ us)) p.0 ∙ all_both ts us p.1 k

one_piece : (spot : Spot) (at : ℕ) (what : What) (bytes after : List ℕ) → stands spot what bytes after ≡ true → list_all fits (token_at at what bytes) ≡ true
one_piece spot at Space bytes after h = refl
one_piece spot at Comment bytes after h = refl
one_piece spot at (of_kind k) bytes after h = ap (λ b. b && true) (token_bytes spot k bytes after h)

all_pieces : (spot : Spot) (at : ℕ) (ps : List Piece) (after : List ℕ) → all_stand spot ps after ≡ true → list_all fits (tokens_from at ps) ≡ true
all_pieces spot at [] after h = refl
all_pieces spot at (p ∷ ps) after h =
    let k = both (stands spot p.what p.bytes (text_of ps ++ after)) (all_stand (next_spot spot p.what p.bytes) ps after) h in
    all_both (token_at at p.what p.bytes) (tokens_from (at + length p.bytes) ps) (one_piece spot at p.what p.bytes _ k.0) (all_pieces (next_spot spot p.what p.bytes) (at + length p.bytes) ps after k.1)

kept : (left : ℕ) (ts : List Lexeme) → list_all fits ts ≡ true → list_all fits (without_scop_lines left ts) ≡ true
kept left [] h = refl
kept zero (t ∷ ts) h =
    let p = both (fits t) (list_all fits ts) h in
    by (begins_scop_line (t ∷ ts)) (kept 3 ts p.1) (ap (λ b. b && list_all fits (without_scop_lines zero ts)) p.0 ∙ kept zero ts p.1)
  where
    by : (b : Bool) → list_all fits (without_scop_lines 3 ts) ≡ true → list_all fits (t ∷ without_scop_lines zero ts) ≡ true → list_all fits (cond b (without_scop_lines 3 ts) (t ∷ without_scop_lines zero ts)) ≡ true
    by true k l = k
    by false k l = l
kept (suc left) (t ∷ ts) h = kept left ts (both (fits t) (list_all fits ts) h).1

-- the bytes of each token are those of its kind
pub tokens_fit : (text : List ℕ) (tokens : List Lexeme) → Lexes text tokens → list_all fits tokens ≡ true
tokens_fit text tokens h = ap (list_all fits) h.its_tokens ∙ kept 0 (tokens_from 0 h.pieces) (all_pieces Fresh 0 h.pieces [] h.standing)

pub fits_at : (text : List ℕ) (ts : List Token) (i : ℕ) (d : Token) → i < length ts → list_all fits (lexemes text ts) ≡ true → fits (lexeme text (slice_index_or ts i d)) ≡ true
fits_at text [] i d lt h = absurd (omega (arith, lt))
fits_at text (t ∷ ts) zero d lt h = (both (fits (lexeme text t)) (list_all fits (lexemes text ts)) h).0
fits_at text (t ∷ ts) (suc i) d lt h = fits_at text ts i d (omega (arith, lt)) (both (fits (lexeme text t)) (list_all fits (lexemes text ts)) h).1
