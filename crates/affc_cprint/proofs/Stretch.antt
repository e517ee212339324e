-- Stretches of a text that are made of pieces.
use Rattle.std.proofs.Common.{◌≡◌, ◌+◌, ℕ, true, false, List, [], ◌∷◌, ◌++◌, length, map, refl, ap, sym, ◌∙◌, append_assoc}
use Rattle.std.proofs.lemmas.Bool.{and_parts, and_from}
use Rattle.affc_lex.specs.declared.piece.What.{What}
use Rattle.affc_lex.specs.declared.piece.What.TheVariants.{Space, Comment, Token as of_kind}
use Rattle.affc_lex.specs.declared.piece.Spot.{Spot}
use Rattle.affc_lex.specs.Pieces.{Piece, text_of, all_stand, stands, next_spot, spot_behind}
use Rattle.affc_lex.specs.Lexes.{tokens_from, token_at, contains_refused}
use Rattle.affc_grammar.specs.Grammar.{Symbol, symbol}

abbrev pub symbols_at : What → List ℕ → List Symbol
symbols_at (of_kind kind) bytes = record { kind = kind; bytes = bytes } ∷ []
symbols_at _ bytes = []

-- the tokens among the pieces, without their places
abbrev pub symbols_of : List Piece → List Symbol
symbols_of [] = []
symbols_of (p ∷ ps) = symbols_at p.what p.bytes ++ symbols_of ps

-- no refused sequence begins in the text, whatever follows
abbrev pub Calm : List ℕ → Type 0
Calm text = (rest : List ℕ) → contains_refused rest ≡ false → contains_refused (text ++ rest) ≡ false

-- At the spot, before `after`, the text is made of pieces that stand; they lead to the next spot and have these tokens.
pub record Stretch (spot : Spot) (text : List ℕ) (symbols : List Symbol) (next : Spot) (after : List ℕ) : Type 0 where
  pub pieces : List Piece
  pub spelled : text_of pieces ≡ text
  pub standing : all_stand spot pieces after ≡ true
  pub leads : spot_behind spot pieces ≡ next
  pub its_symbols : symbols_of pieces ≡ symbols
  pub calm : Calm text

text-append : (ps qs : List Piece) → text_of (ps ++ qs) ≡ text_of ps ++ text_of qs
text-append [] qs = refl
text-append (p ∷ ps) qs = ap (λ x. p.bytes ++ x) (text-append ps qs) ∙ sym (append_assoc p.bytes (text_of ps) (text_of qs))

symbols-append : (ps qs : List Piece) → symbols_of (ps ++ qs) ≡ symbols_of ps ++ symbols_of qs
symbols-append [] qs = refl
symbols-append (p ∷ ps) qs =
    ap (λ x. symbols_at p.what p.bytes ++ x) (symbols-append ps qs) ∙ sym (append_assoc (symbols_at p.what p.bytes) (symbols_of ps) (symbols_of qs))

spot-append : (spot : Spot) (ps qs : List Piece) → spot_behind spot (ps ++ qs) ≡ spot_behind (spot_behind spot ps) qs
spot-append spot [] qs = refl
spot-append spot (p ∷ ps) qs = spot-append (next_spot spot p.what p.bytes) ps qs

stand-append : (spot : Spot) (ps qs : List Piece) (after : List ℕ)
    → all_stand spot ps (text_of qs ++ after) ≡ true → all_stand (spot_behind spot ps) qs after ≡ true
    → all_stand spot (ps ++ qs) after ≡ true
stand-append spot [] qs after p q = q
stand-append spot (p ∷ ps) qs after h q =
    let e : text_of (ps ++ qs) ++ after ≡ text_of ps ++ (text_of qs ++ after) = ap (λ x. x ++ after) (text-append ps qs) ∙ append_assoc (text_of ps) (text_of qs) after in
    let both = and_parts (stands spot p.what p.bytes (text_of ps ++ (text_of qs ++ after))) (all_stand (next_spot spot p.what p.bytes) ps (text_of qs ++ after)) h in
    and_from _ _ (ap (λ x. stands spot p.what p.bytes x) e ∙ both.0) (stand-append (next_spot spot p.what p.bytes) ps qs after both.1 q)

-- one stretch behind the other
infixr 20 ◌join◌
pub ◌join◌ : {spot mid next : Spot} {a b : List ℕ} {ks ls : List Symbol} {after : List ℕ}
    → Stretch spot a ks mid (b ++ after) → Stretch mid b ls next after → Stretch spot (a ++ b) (ks ++ ls) next after
◌join◌ {spot = spot} {mid = mid} {next = next} {a = a} {b = b} {ks = ks} {ls = ls} {after = after} s t = record {
  pieces = s.pieces ++ t.pieces;
  spelled = text-append s.pieces t.pieces ∙ ap (λ x. x ++ text_of t.pieces) s.spelled ∙ ap (λ x. a ++ x) t.spelled;
  standing = stand-append spot s.pieces t.pieces after
      (ap (λ x. all_stand spot s.pieces (x ++ after)) t.spelled ∙ s.standing)
      (ap (λ x. all_stand x t.pieces after) s.leads ∙ t.standing);
  leads = spot-append spot s.pieces t.pieces ∙ ap (λ x. spot_behind x t.pieces) s.leads ∙ t.leads;
  its_symbols = symbols-append s.pieces t.pieces ∙ ap (λ x. x ++ symbols_of t.pieces) s.its_symbols ∙ ap (λ x. ks ++ x) t.its_symbols;
  calm = λ rest h. ap contains_refused (append_assoc a b rest) ∙ s.calm (b ++ rest) (t.calm rest h);
}

pub nothing : {spot : Spot} (after : List ℕ) → Stretch spot [] [] spot after
nothing after = record { pieces = []; spelled = refl; standing = refl; leads = refl; its_symbols = refl; calm = λ rest h. h }

-- places apart, the tokens of the pieces are these
pub symbols-tokens : (at : ℕ) (ps : List Piece) → map symbol (tokens_from at ps) ≡ symbols_of ps
symbols-tokens at [] = refl
symbols-tokens at (p ∷ ps) = step p.what (symbols-tokens (at + length p.bytes) ps)
  where
    step : (what : What) → map symbol (tokens_from (at + length p.bytes) ps) ≡ symbols_of ps
        → map symbol (token_at at what p.bytes ++ tokens_from (at + length p.bytes) ps) ≡ symbols_at what p.bytes ++ symbols_of ps
    step Space e = e
    step Comment e = e
    step (of_kind kind) e = ap (λ x. record { kind = kind; bytes = p.bytes } ∷ x) e
