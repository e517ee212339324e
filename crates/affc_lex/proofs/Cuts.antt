-- A text cut into pieces up to a place, one piece after another.
use Rattle.std.proofs.Common.{◌≡◌, ℕ, ◌+◌, ◌-◌, ◌<◌, ◌≤◌, true, false, List, [], ◌∷◌, ◌++◌, length, take, drop, refl, sym, ap, ◌∙◌, subst, arith, append_assoc}
use Rattle.std.specs.List.{All}
use Rattle.std.proofs.lemmas.List.{take-append-drop, append-nil, length-append, length-take-le, drop-drop, drop_all, map-append, length-drop, take_rest}
use Rattle.std.proofs.lemmas.List.Elements.{All-append, All-nil, All-push}
use Rattle.std.proofs.lemmas.Bool.{and_from, and_parts, not_from_false}
use Rattle.affc_lex.specs.declared.token.Kind.TheVariants.{LineEnd}
use Rattle.affc_lex.specs.declared.token.Token.{Token}
use Rattle.affc_lex.specs.declared.piece.What.{What}
use Rattle.affc_lex.specs.declared.piece.What.TheVariants.{Space, Comment, Token as of_kind}
use Rattle.affc_lex.specs.declared.piece.Spot.{Spot}
use Rattle.affc_lex.specs.declared.piece.Spot.TheVariants.{Fresh}
use Rattle.affc_lex.specs.declared.piece.Found.{Found}
use Rattle.affc_lex.specs.Pieces.{Piece, stands, text_of, all_stand, spot_behind, next_spot, is_on_directive}
use Rattle.affc_lex.specs.Lexes.{IsIn, Lexeme, lexeme, lexemes, token_at, tokens_from}
use Rattle.affc_lex.specs.Reading.{read}
use Rattle.affc_lex.specs.FoundAt.{StandsFor}
use Rattle.affc_lex.specs.Cutting.{made, TokensOf, Stops, StopsSo, fault_of, is_piece}

-- Lists of pieces joined

text_joined : (ps qs : List Piece) → text_of (ps ++ qs) ≡ text_of ps ++ text_of qs
text_joined [] qs = refl
text_joined (p ∷ ps) qs = ap (λ zs. p.bytes ++ zs) (text_joined ps qs) ∙ sym (append_assoc p.bytes (text_of ps) (text_of qs))

spot_joined : (spot : Spot) (ps qs : List Piece) → spot_behind spot (ps ++ qs) ≡ spot_behind (spot_behind spot ps) qs
spot_joined spot [] qs = refl
spot_joined spot (p ∷ ps) qs = spot_joined (next_spot spot p.what p.bytes) ps qs

stand_joined : (spot : Spot) (ps qs : List Piece) (after : List ℕ) → all_stand spot ps (text_of qs ++ after) ≡ true → all_stand (spot_behind spot ps) qs after ≡ true → all_stand spot (ps ++ qs) after ≡ true
stand_joined spot [] qs after first second = second
stand_joined spot (p ∷ ps) qs after first second =
    let parts = and_parts (stands spot p.what p.bytes (text_of ps ++ (text_of qs ++ after))) (all_stand (next_spot spot p.what p.bytes) ps (text_of qs ++ after)) first in
    let text : text_of ps ++ (text_of qs ++ after) ≡ text_of (ps ++ qs) ++ after = sym (append_assoc (text_of ps) (text_of qs) after) ∙ ap (λ zs. zs ++ after) (sym (text_joined ps qs)) in
    and_from _ _ (ap (stands spot p.what p.bytes) (sym text) ∙ parts.0) (stand_joined (next_spot spot p.what p.bytes) ps qs after parts.1 second)

tokens_joined : (at : ℕ) (ps qs : List Piece) → tokens_from at (ps ++ qs) ≡ tokens_from at ps ++ tokens_from (at + length (text_of ps)) qs
tokens_joined at [] qs = ap (λ n. tokens_from n qs) (omega arith)
tokens_joined at (p ∷ ps) qs =
    let further : (at + length p.bytes) + length (text_of ps) ≡ at + length (p.bytes ++ text_of ps) = omega (arith, length-append p.bytes (text_of ps)) in
    ap (λ zs. token_at at p.what p.bytes ++ zs) (tokens_joined (at + length p.bytes) ps qs ∙ ap (λ n. tokens_from (at + length p.bytes) ps ++ tokens_from n qs) further)
    ∙ sym (append_assoc (token_at at p.what p.bytes) (tokens_from (at + length p.bytes) ps) (tokens_from (at + length (p.bytes ++ text_of ps)) qs))

-- Pieces of the text stand up to a place, and these are their tokens.
pub record Cut (text : List ℕ) (at : ℕ) (spot : Spot) (tokens : List Token) : Type 0 where
  pub pieces : List Piece
  pub spelled : text ≡ text_of pieces ++ drop at text
  pub standing : all_stand Fresh pieces (drop at text) ≡ true
  pub at_is : at ≡ length (text_of pieces)
  pub spot_is : spot ≡ spot_behind Fresh pieces
  pub tokens_are : lexemes text tokens ≡ tokens_from 0 pieces
  pub within : at ≤ length text
  pub tokens_within : All (IsIn (length text)) tokens

pub cut_start : (text : List ℕ) → Cut text 0 Fresh []
cut_start text = record {
  pieces = [];
  spelled = refl;
  standing = refl;
  at_is = refl;
  spot_is = refl;
  tokens_are = refl;
  within = omega arith;
  tokens_within = All-nil (IsIn (length text));
}

made_within : (n : ℕ) (what : What) (start end : ℕ) → start ≤ end → end ≤ n → All (IsIn n) (made what start end)
made_within n Space start end before inside = All-nil (IsIn n)
made_within n Comment start end before inside = All-nil (IsIn n)
made_within n (of_kind kind) start end before inside = All-push (IsIn n) [] (record { kind = kind; start = start; end = end }) (All-nil (IsIn n)) (before, inside)

same_lexeme : (kind : Rattle.affc_lex.specs.declared.token.Kind.Kind) (xs ys : List ℕ) (start m n : ℕ) → xs ≡ ys → m ≡ n → ◌≡◌ {A = Lexeme} (record { kind = kind; bytes = xs; start = start; end = m }) (record { kind = kind; bytes = ys; start = start; end = n })
same_lexeme kind xs ys start m n e f = ap (λ zs. record { kind = kind; bytes = zs; start = start; end = m }) e ∙ ap (λ k. record { kind = kind; bytes = ys; start = start; end = k }) f

made_seen : (text : List ℕ) (what : What) (at n : ℕ) → length (take n (drop at text)) ≡ n → lexemes text (made what at (at + n)) ≡ token_at at what (take n (drop at text)) ++ []
made_seen text Space at n long = refl
made_seen text Comment at n long = refl
made_seen text (of_kind kind) at n long =
    let count : (at + n) - at ≡ n = omega arith in
    ap (λ (t : Lexeme). t ∷ []) (same_lexeme kind _ _ at _ _ (ap (λ k. take k (drop at text)) count) (ap (λ k. at + k) (sym long)))

-- one piece of n bytes further, which may be none only at the end
further : (text : List ℕ) (at : ℕ) (spot : Spot) (tokens : List Token) (what : What) (n : ℕ) → Cut text at spot tokens → n ≤ length (drop at text) → stands spot what (take n (drop at text)) (drop n (drop at text)) ≡ true → Cut text (at + n) (next_spot spot what (take n (drop at text))) (tokens ++ made what at (at + n))
further text at spot tokens what n cut fits standing =
    let rest = drop at text in
    let piece : Piece = record { what = what; bytes = take n rest } in
    let long : length (take n rest) ≡ n = length-take-le n rest fits in
    let next : drop n rest ≡ drop (at + n) text = drop-drop n at text in
    let alone : text_of (piece ∷ []) ≡ take n rest = append-nil (take n rest) in
    let joined : text_of (cut.pieces ++ piece ∷ []) ≡ text_of cut.pieces ++ take n rest = text_joined cut.pieces (piece ∷ []) ∙ ap (λ zs. text_of cut.pieces ++ zs) alone in
    let halves : text_of (piece ∷ []) ++ drop (at + n) text ≡ rest = ap (λ zs. zs ++ drop (at + n) text) alone ∙ ap (λ zs. take n rest ++ zs) (sym next) ∙ take-append-drop n rest in
    let here : stands (spot_behind Fresh cut.pieces) what (take n rest) (drop (at + n) text) ≡ true = ap (λ s. stands s what (take n rest) (drop (at + n) text)) (sym cut.spot_is) ∙ ap (stands spot what (take n rest)) (sym next) ∙ standing in
    record {
      pieces = cut.pieces ++ piece ∷ [];
      spelled =
          cut.spelled ∙ ap (λ zs. text_of cut.pieces ++ zs) (sym halves) ∙ sym (append_assoc (text_of cut.pieces) (text_of (piece ∷ [])) (drop (at + n) text))
          ∙ ap (λ zs. zs ++ drop (at + n) text) (sym (text_joined cut.pieces (piece ∷ [])));
      standing = stand_joined Fresh cut.pieces (piece ∷ []) (drop (at + n) text) (ap (all_stand Fresh cut.pieces) halves ∙ cut.standing) (and_from _ _ here refl);
      at_is = omega (arith, cut.at_is, ap length joined, length-append (text_of cut.pieces) (take n rest), long);
      spot_is = ap (λ s. next_spot s what (take n rest)) cut.spot_is ∙ sym (spot_joined Fresh cut.pieces (piece ∷ []));
      tokens_are =
          map-append (lexeme text) tokens (made what at (at + n)) ∙ ap (λ zs. zs ++ lexemes text (made what at (at + n))) cut.tokens_are
          ∙ ap (λ zs. tokens_from 0 cut.pieces ++ zs) (made_seen text what at n long ∙ ap (λ k. token_at k what (take n rest) ++ []) (let place : at ≡ 0 + length (text_of cut.pieces) = omega (arith, cut.at_is) in place))
          ∙ sym (tokens_joined 0 cut.pieces (piece ∷ []));
      within = omega (arith, length-drop at text, cut.within);
      tokens_within = All-append (IsIn (length text)) tokens (made what at (at + n)) cut.tokens_within (made_within (length text) what at (at + n) (omega arith) (omega (arith, length-drop at text, cut.within)));
    }

pub cut_further : (text : List ℕ) (at : ℕ) (spot : Spot) (tokens : List Token) (what : What) (n : ℕ) → Cut text at spot tokens → StandsFor spot what n (drop at text) → Cut text (at + n) (next_spot spot what (take n (drop at text))) (tokens ++ made what at (at + n))
cut_further text at spot tokens what n cut piece = further text at spot tokens what n cut piece.within piece.standing

-- at the end of the text
pub cut_ended : (text : List ℕ) (at : ℕ) (spot : Spot) (tokens : List Token) → Cut text at spot tokens → length text ≤ at → is_on_directive spot ≡ false → TokensOf text tokens
cut_ended text at spot tokens cut past off =
    let nothing : drop at text ≡ [] = drop_all at text past in
    record {
      whole = record {
        pieces = cut.pieces;
        spelled = cut.spelled ∙ ap (λ zs. text_of cut.pieces ++ zs) nothing ∙ append-nil (text_of cut.pieces);
        standing = ap (all_stand Fresh cut.pieces) (sym nothing) ∙ cut.standing;
        ended = not_from_false _ (ap is_on_directive (sym cut.spot_is) ∙ off);
      };
      tokens_are = cut.tokens_are;
      within = cut.tokens_within;
    }

-- at the end of the text, where a line with `#` has no line feed
pub cut_line_ended : (text : List ℕ) (at : ℕ) (spot : Spot) (tokens : List Token) → Cut text at spot tokens → length text ≤ at → is_on_directive spot ≡ true → TokensOf text (tokens ++ made (of_kind LineEnd) at at)
cut_line_ended text at spot tokens cut past on =
    let nothing : drop at text ≡ [] = drop_all at text past in
    let line_end : stands spot (of_kind LineEnd) (take 0 (drop at text)) (drop 0 (drop at text)) ≡ true = and_from _ _ on (ap (λ zs. Rattle.affc_lex.specs.Bytes.same zs []) nothing) in
    let longer = further text at spot tokens (of_kind LineEnd) 0 cut (omega arith) line_end in
    let place : at + 0 ≡ at = omega arith in
    subst (λ n. TokensOf text (tokens ++ made (of_kind LineEnd) at n)) place
    (cut_ended text (at + 0) _ (tokens ++ made (of_kind LineEnd) at (at + 0)) longer (omega arith) refl)

-- where no piece stands
pub cut_stops : (text : List ℕ) (at : ℕ) (spot : Spot) (tokens : List Token) (found : Found) → Cut text at spot tokens → at < length text → read spot (drop at text) ≡ found → is_piece found ≡ false → Stops text found at
cut_stops text at spot tokens found cut inside found_is none =
    let split = first_byte (drop at text) (omega (arith, length-drop at text)) in
    record {
      front = record { pieces = cut.pieces; rest = drop at text; spelled = cut.spelled; standing = cut.standing };
      first = split.0;
      others = split.1;
      rest_is = split.2;
      found_is = ap (λ s. read s (drop at text)) (sym cut.spot_is) ∙ found_is;
      no_piece = none;
      at_is = cut.at_is;
    }
  where
    first_byte : (xs : List ℕ) → 0 < length xs → (b : ℕ) × (bs : List ℕ) × (xs ≡ b ∷ bs)
    first_byte [] some = absurd (omega arith)
    first_byte (b ∷ bs) some = (b, bs, refl)

-- the same, where the rest of the text is the slice that the code has
pub cut_turn : (text : List ℕ) (at : ℕ) (spot : Spot) (tokens : List Token) (what : What) (n : ℕ) (next : Spot) (longer : List Token) → Cut text at spot tokens → StandsFor spot what n (take (length text - at) (drop at text)) → next ≡ next_spot spot what (take n (take (length text - at) (drop at text))) → longer ≡ tokens ++ made what at (at + n) → Cut text (at + n) next longer
cut_turn text at spot tokens what n next longer cut piece next_is longer_is =
    let rest = take_rest text at in
    let turned = cut_further text at spot tokens what n cut (subst (StandsFor spot what n) rest piece) in
    subst (λ s. Cut text (at + n) s longer) (sym (next_is ∙ ap (λ zs. next_spot spot what (take n zs)) rest))
    (subst (λ ts. Cut text (at + n) (next_spot spot what (take n (drop at text))) ts) (sym longer_is) turned)

pub cut_fault : (text : List ℕ) (at : ℕ) (spot : Spot) (tokens : List Token) (found : Found) → Cut text at spot tokens → at < length text → found ≡ read spot (take (length text - at) (drop at text)) → is_piece found ≡ false → StopsSo text (fault_of at found)
cut_fault text at spot tokens found cut inside found_is none =
    record { found = found; at = at; stops = cut_stops text at spot tokens found cut inside (sym (found_is ∙ ap (read spot) (take_rest text at))) none; fault_is = refl }
