-- Pieces stand before less of the text that follows them, too. So no text that ends inside a comment has tokens.
use Rattle.std.proofs.Common.{◌≡◌, ℕ, zero, suc, ◌+◌, ◌-◌, ◌<◌, ◌≤◌, Bool, true, false, not, ◌&&◌, ◌||◌, ◌==◌, if◌then◌else◌, List, [], ◌∷◌, ◌++◌, take, drop, length, codes, IsTrue, refl, sym, ap, ◌∙◌, subst, arith, append_assoc, length-append, inl, inr}
use Rattle.std.proofs.lemmas.Bool.{and_parts, and_from, or_left, or_right}
use Rattle.std.proofs.lemmas.List.{take-append-drop, take-take}
use Rattle.affc_lex.specs.declared.token.Kind.{Kind}
use Rattle.affc_lex.specs.declared.token.Kind.TheVariants.{Word, Number, Value, Header, Hash, LineEnd, Prelude, Mark}
use Rattle.affc_lex.specs.declared.piece.What.{What}
use Rattle.affc_lex.specs.declared.piece.What.TheVariants.{Space, Comment, Token}
use Rattle.affc_lex.specs.declared.piece.Spot.{Spot}
use Rattle.affc_lex.specs.declared.piece.Spot.TheVariants.{Fresh}
use Rattle.affc_lex.specs.declared.token.LexFault.TheVariants.{BadByte, OpenComment}
use Rattle.affc_lex.specs.Bytes.{is_letter_or_digit, is_line_feed, same, begins, next_is, contains}
use Rattle.affc_lex.specs.Pieces.{Piece, text_of, all_stand, stands, token_stands, next_spot, is_line_comment, is_block_comment, is_word, is_number, is_small, is_value, leading_digits, is_mark, is_on_directive, is_after_include, longer_mark, closes_header, opens_header, header_begins, prelude}
use Rattle.affc_lex.specs.Lexes.{Lexeme, Lexes}
use Rattle.affc_lex.specs.Faults.{OpenAt, Front}
use Rattle.affc_lex.proofs.Exact.{no_fault}

-- ---- Tests

and_keeps : (a b c : Bool) → (b ≡ true → c ≡ true) → (a && b) ≡ true → (a && c) ≡ true
and_keeps true b c h e = h e
and_keeps false b c h e = e

both_keep : (a b c d : Bool) → (a ≡ true → c ≡ true) → (b ≡ true → d ≡ true) → (a && b) ≡ true → (c && d) ≡ true
both_keep a b c d h k e = let p = and_parts a b e in and_from c d (h p.0) (k p.1)

or_keeps : (a b c d : Bool) → (a ≡ true → c ≡ true) → (b ≡ true → d ≡ true) → (a || b) ≡ true → (c || d) ≡ true
or_keeps true b c d h k e = or_left c d (h refl)
or_keeps false b c d h k e = or_right c d (k e)

third_keeps : (a b c d : Bool) → (c ≡ true → d ≡ true) → (a && b && c) ≡ true → (a && b && d) ≡ true
third_keeps true true c d h e = h e
third_keeps true false c d h e = e
third_keeps false b c d h e = e

two_keep : (a b c d f : Bool) → (b ≡ true → d ≡ true) → (c ≡ true → f ≡ true) → (a && b && c) ≡ true → (a && d && f) ≡ true
two_keep true true true d f h k e = (λ i. true && h refl i && k refl i)
two_keep true true false d f h k e = absurd (cc)
two_keep true false c d f h k e = absurd (cc)
two_keep false b c d f h k e = e

not_keeps : (a b : Bool) → (b ≡ true → a ≡ true) → not a ≡ true → not b ≡ true
not_keeps a false h e = refl
not_keeps true true h e = e
not_keeps false true h e = h refl

-- ---- What follows

next_more : (test : ℕ → Bool) (xs ys : List ℕ) → next_is test xs ≡ true → next_is test (xs ++ ys) ≡ true
next_more test [] ys e = absurd (cc)
next_more test (x ∷ xs) ys e = e

begins_more : (part xs ys : List ℕ) → begins part xs ≡ true → begins part (xs ++ ys) ≡ true
begins_more [] xs ys e = refl
begins_more (p ∷ ps) [] ys e = absurd (cc)
begins_more (p ∷ ps) (x ∷ xs) ys e = and_keeps (p == x) (begins ps xs) (begins ps (xs ++ ys)) (begins_more ps xs ys) e

contains_more : (part xs ys : List ℕ) → contains part xs ≡ true → contains part (xs ++ ys) ≡ true
contains_more part [] ys e = absurd (cc)
contains_more part (x ∷ xs) ys e = or_keeps (begins part (x ∷ xs)) (contains part xs) (begins part (x ∷ (xs ++ ys))) (contains part (xs ++ ys)) (begins_more part (x ∷ xs) ys) (contains_more part xs ys) e

closes_at : (b : Bool) (x : ℕ) (xs ys : List ℕ) → (closes_header xs ≡ true → closes_header ys ≡ true) → (if b then true else not (is_line_feed x) && closes_header xs) ≡ true → (if b then true else not (is_line_feed x) && closes_header ys) ≡ true
closes_at true x xs ys h e = refl
closes_at false x xs ys h e = and_keeps (not (is_line_feed x)) (closes_header xs) (closes_header ys) h e

closes_more : (xs ys : List ℕ) → closes_header xs ≡ true → closes_header (xs ++ ys) ≡ true
closes_more [] ys e = absurd (cc)
closes_more (x ∷ xs) ys e = closes_at (x == 62) x xs (xs ++ ys) (closes_more xs ys) e

opens_more : (xs ys : List ℕ) → opens_header xs ≡ true → opens_header (xs ++ ys) ≡ true
opens_more [] ys e = absurd (cc)
opens_more (x ∷ xs) ys e = and_keeps (x == 60) (closes_header xs) (closes_header (xs ++ ys)) (closes_more xs ys) e

longer_more : (bytes xs ys : List ℕ) → longer_mark bytes xs ≡ true → longer_mark bytes (xs ++ ys) ≡ true
longer_more [] xs ys e = absurd (cc)
longer_more (a ∷ []) [] ys e = absurd (cc)
longer_more (a ∷ []) (b ∷ []) [] e = e
longer_more (a ∷ []) (b ∷ []) (y ∷ ys) e = or_left (is_mark (a ∷ b ∷ [])) (is_mark (a ∷ b ∷ y ∷ [])) e
longer_more (a ∷ []) (b ∷ (c ∷ xs)) ys e = e
longer_more (a ∷ (b ∷ [])) [] ys e = absurd (cc)
longer_more (a ∷ (b ∷ [])) (c ∷ xs) ys e = e
longer_more (a ∷ (b ∷ (c ∷ bs))) xs ys e = absurd (cc)

none_less : (xs ys : List ℕ) → same (xs ++ ys) [] ≡ true → same xs [] ≡ true
none_less [] ys e = refl
none_less (x ∷ xs) ys e = absurd (cc)

-- ---- Pieces

-- before less of the text that follows
next_less : (test : ℕ → Bool) (xs ys : List ℕ) → not (next_is test (xs ++ ys)) ≡ true → not (next_is test xs) ≡ true
next_less test xs ys e = not_keeps (next_is test (xs ++ ys)) (next_is test xs) (next_more test xs ys) e

begun_less : (bytes xs ys : List ℕ) → not (begins prelude (bytes ++ (xs ++ ys))) ≡ true → not (begins prelude (bytes ++ xs)) ≡ true
begun_less bytes xs ys e =
    not_keeps (begins prelude (bytes ++ (xs ++ ys))) (begins prelude (bytes ++ xs)) (λ q. subst (λ l. begins prelude l ≡ true) (append_assoc bytes xs ys) (begins_more prelude (bytes ++ xs) ys q)) e

header_less : (spot : Spot) (bytes xs ys : List ℕ) → not (header_begins spot (bytes ++ (xs ++ ys))) ≡ true → not (header_begins spot (bytes ++ xs)) ≡ true
header_less spot bytes xs ys e =
    not_keeps (header_begins spot (bytes ++ (xs ++ ys))) (header_begins spot (bytes ++ xs))
    (λ q. subst (λ l. header_begins spot l ≡ true) (append_assoc bytes xs ys) (and_keeps (is_after_include spot) (opens_header (bytes ++ xs)) (opens_header ((bytes ++ xs) ++ ys)) (opens_more (bytes ++ xs) ys) q)) e

token_less : (spot : Spot) (kind : Kind) (bytes xs ys : List ℕ) → token_stands spot kind bytes (xs ++ ys) ≡ true → token_stands spot kind bytes xs ≡ true
token_less spot Word bytes xs ys e =
    two_keep (is_word bytes) (not (next_is is_letter_or_digit (xs ++ ys))) (not (begins prelude (bytes ++ (xs ++ ys)))) (not (next_is is_letter_or_digit xs)) (not (begins prelude (bytes ++ xs))) (next_less is_letter_or_digit xs ys) (begun_less bytes xs ys) e
token_less spot Number bytes xs ys e = third_keeps (is_number bytes) (is_small bytes) (not (next_is is_letter_or_digit (xs ++ ys))) (not (next_is is_letter_or_digit xs)) (next_less is_letter_or_digit xs ys) e
token_less spot Value bytes xs ys e = third_keeps (is_value bytes) (is_small (leading_digits bytes)) (not (next_is is_letter_or_digit (xs ++ ys))) (not (next_is is_letter_or_digit xs)) (next_less is_letter_or_digit xs ys) e
token_less spot Header bytes xs ys e = e
token_less spot Hash bytes xs ys e = e
token_less spot LineEnd bytes xs ys e =
    and_keeps (is_on_directive spot) (same bytes (codes "\n") || (same bytes [] && same (xs ++ ys) [])) (same bytes (codes "\n") || (same bytes [] && same xs []))
    (or_keeps (same bytes (codes "\n")) (same bytes [] && same (xs ++ ys) []) (same bytes (codes "\n")) (same bytes [] && same xs []) (λ q. q) (and_keeps (same bytes []) (same (xs ++ ys) []) (same xs []) (none_less xs ys))) e
token_less spot Prelude bytes xs ys e = e
token_less spot Mark bytes xs ys e =
    two_keep (is_mark bytes) (not (longer_mark bytes (xs ++ ys))) (not (header_begins spot (bytes ++ (xs ++ ys)))) (not (longer_mark bytes xs)) (not (header_begins spot (bytes ++ xs)))
    (not_keeps (longer_mark bytes (xs ++ ys)) (longer_mark bytes xs) (longer_more bytes xs ys)) (header_less spot bytes xs ys) e

stands_less : (spot : Spot) (what : What) (bytes xs ys : List ℕ) → stands spot what bytes (xs ++ ys) ≡ true → stands spot what bytes xs ≡ true
stands_less spot Space [] xs ys e = e
stands_less spot Space (b ∷ []) xs ys e = e
stands_less spot Space (b ∷ (c ∷ bs)) xs ys e = e
stands_less spot Comment bytes xs ys e =
    or_keeps (is_line_comment bytes (xs ++ ys)) (is_block_comment bytes) (is_line_comment bytes xs) (is_block_comment bytes)
    (third_keeps (begins (codes "//") bytes) _ (not (next_is (λ b. not (is_line_feed b)) (xs ++ ys))) (not (next_is (λ b. not (is_line_feed b)) xs)) (next_less (λ b. not (is_line_feed b)) xs ys)) (λ q. q) e
stands_less spot (Token kind) bytes xs ys e = token_less spot kind bytes xs ys e

all_less : (spot : Spot) (ps : List Piece) (xs ys : List ℕ) → all_stand spot ps (xs ++ ys) ≡ true → all_stand spot ps xs ≡ true
all_less spot [] xs ys e = refl
all_less spot (p ∷ ps) xs ys e =
    both_keep (stands spot p.what p.bytes (text_of ps ++ (xs ++ ys))) (all_stand (next_spot spot p.what p.bytes) ps (xs ++ ys)) (stands spot p.what p.bytes (text_of ps ++ xs)) (all_stand (next_spot spot p.what p.bytes) ps xs)
    (λ q. stands_less spot p.what p.bytes (text_of ps ++ xs) ys (subst (λ l. stands spot p.what p.bytes l ≡ true) (sym (append_assoc (text_of ps) xs ys)) q)) (all_less (next_spot spot p.what p.bytes) ps xs ys) e

-- ---- Open comments

take_behind : (xs ys : List ℕ) (n m : ℕ) → m ≡ length xs + n → take m (xs ++ ys) ≡ xs ++ take n ys
take_behind [] ys n m e = let same : m ≡ n = omega (arith, e) in ap (λ k. take k ys) same
take_behind (x ∷ xs) ys n zero e = absurd (omega (arith, e))
take_behind (x ∷ xs) ys n (suc m) e = ap (λ l. x ∷ l) (take_behind xs ys n m (omega (arith, e)))

pub open_within : (text : List ℕ) (at : ℕ) → OpenAt text at → at < length text
open_within text at o =
    let whole : length text ≡ length (text_of o.front.pieces ++ o.front.rest) = ap length o.front.spelled in
    let parts = length-append (text_of o.front.pieces) o.front.rest in
    let behind : length o.front.rest ≡ suc (suc (length o.inside)) = ap length o.opens in
    let is_at = o.is_at in
    omega (arith, whole, parts, behind, is_at)

-- more bytes than stand before the comment
module _ (text : List ℕ) (at : ℕ) (o : OpenAt text at) where
  abbrev pieces : List Piece
  pieces = o.front.pieces

  spelled_to : (n : ℕ) → take (at + n) text ≡ text_of pieces ++ take n (codes "/*" ++ o.inside)
  spelled_to n =
      let e = o.is_at in
      ap (take (at + n)) o.front.spelled ∙ take_behind (text_of pieces) o.front.rest n (at + n) (omega (arith, e)) ∙ ap (λ l. text_of pieces ++ take n l) o.opens

  standing_to : (n : ℕ) → IsTrue (all_stand Fresh pieces (take n (codes "/*" ++ o.inside)))
  standing_to n =
      all_less Fresh pieces (take n (codes "/*" ++ o.inside)) (drop n (codes "/*" ++ o.inside))
      (subst (λ l. all_stand Fresh pieces l ≡ true) (o.opens ∙ sym (take-append-drop n (codes "/*" ++ o.inside))) o.front.standing)

  front_to : (n : ℕ) → Front (take (at + n) text)
  front_to n = record { pieces = pieces; rest = take n (codes "/*" ++ o.inside); spelled = spelled_to n; standing = standing_to n }

  none_at : (n : ℕ) (ts : List Lexeme) → Lexes (take (at + suc n) text) ts → ⊥
  unfolding front_to
  none_at zero ts x = no_fault (take (at + 1) text) ts (BadByte at) x (inr (inl (record { front = front_to 1; byte = 47; after = []; goes_on = refl; nothing = refl; is_at = o.is_at })))
  none_at (suc n) ts x =
      no_fault (take (at + suc (suc n)) text) ts (OpenComment at) x (record {
        front = front_to (suc (suc n));
        inside = take n o.inside;
        opens = refl;
        open_end = not_keeps (contains (codes "*/") o.inside) (contains (codes "*/") (take n o.inside)) (λ q. subst (λ l. contains (codes "*/") l ≡ true) (take-append-drop n o.inside) (contains_more (codes "*/") (take n o.inside) (drop n o.inside) q)) o.open_end;
        is_at = o.is_at;
      })

-- no beginning that ends inside the comment has tokens
pub none_inside : (text : List ℕ) (to at n : ℕ) → OpenAt (take to text) at → at < n → n ≤ to → (ts : List Lexeme) → Lexes (take n text) ts → ⊥
none_inside text to at n o lt le ts x =
    let m : at + suc (n - suc at) ≡ n = omega (arith, lt) in
    none_at (take to text) at o (n - suc at) ts (subst (λ l. Lexes l ts) (sym (ap (λ k. take k (take to text)) m ∙ take-take n to text le)) x)
