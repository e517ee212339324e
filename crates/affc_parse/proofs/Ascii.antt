-- Tokens but a Header are ASCII.
use Rattle.std.proofs.Common.{◌≡◌, ℕ, ◌<◌, Bool, true, false, ◌&&◌, ◌||◌, ◌==◌, nat_lt, List, [], ◌∷◌, ◌++◌, refl, ap, ◌∙◌, arith, codes}
use Rattle.std.proofs.lemmas.Bool.Decides.{nat_tests}
use Rattle.std.proofs.lemmas.Slice.Eq.{bytes_eq-Decides}
use Rattle.std.specs.Prelude.{All}
use Rattle.std.specs.List.{list_all}
use Rattle.std.specs.Str.{IsUtf8}
use Rattle.std.proofs.lemmas.List.Elements.{All-cons}
use Rattle.std.proofs.lemmas.Str.{IsUtf8-from_ascii}
use Rattle.std.proofs.lemmas.Str.Ascii.{IsAscii-from_all}
use Rattle.affc_lex.specs.declared.token.Kind.{Kind}
use Rattle.affc_lex.specs.declared.token.Kind.TheVariants.{Word, Number, Value, Header, Hash, LineEnd, Prelude, Mark}
use Rattle.affc_lex.specs.Bytes.{is_digit, is_letter, is_letter_or_digit, same, among}
use Rattle.affc_lex.specs.Pieces.{prelude, is_word, is_value, is_mark, leading_digits}
use Rattle.affc_lex.proofs.ByteClasses.{among_passes}
use Rattle.affc_lex.proofs.Literals.{number_digits, value_is}
use Rattle.affc_parse.specs.Shown.{are_bytes, is_header_kind}
use Rattle.affc_parse.proofs.TokenBytes.{both}

abbrev low : ℕ → Bool
low b = nat_lt b 128

letter_low : (b : ℕ) → is_letter b ≡ true → low b ≡ true
letter_low b h = grind (arith, nat_tests)

digit_low : (b : ℕ) → is_digit b ≡ true → low b ≡ true
digit_low b h = grind (arith, nat_tests)

letter_or_digit_low : (b : ℕ) → is_letter_or_digit b ≡ true → low b ≡ true
letter_or_digit_low b h = grind (arith, nat_tests)

all_low : (test : ℕ → Bool) → ((b : ℕ) → test b ≡ true → low b ≡ true) → (bs : List ℕ) → list_all test bs ≡ true → list_all low bs ≡ true
all_low test k [] h = refl
all_low test k (b ∷ bs) h =
    let p = both (test b) (list_all test bs) h in
    ap (λ x. x && list_all low bs) (k b p.0) ∙ all_low test k bs p.1

both_low : (xs ys : List ℕ) → list_all low xs ≡ true → list_all low ys ≡ true → list_all low (xs ++ ys) ≡ true
both_low [] ys h k = k
both_low (x ∷ xs) ys h k =
    let p = both (low x) (list_all low xs) h in
    ap (λ b. b && list_all low (xs ++ ys)) p.0 ∙ both_low xs ys p.1 k

same_low : (xs ys : List ℕ) → same xs ys ≡ true → list_all low ys ≡ true → list_all low xs ≡ true
same_low xs ys h k = ap (list_all low) ((bytes_eq-Decides xs ys).0 h) ∙ k

word_low : (bs : List ℕ) → is_word bs ≡ true → list_all low bs ≡ true
word_low [] h = refl
word_low (b ∷ bs) h =
    let p = both (is_letter b) (list_all is_letter_or_digit bs) h in
    ap (λ x. x && list_all low bs) (letter_low b p.0) ∙ all_low is_letter_or_digit letter_or_digit_low bs p.1

either_way : {P : Type 0} (a b : Bool) → (a || b) ≡ true → (a ≡ true → P) → (b ≡ true → P) → P
either_way true b h f g = f refl
either_way false b h f g = g h

eq_low : (a b : ℕ) → (a == b) ≡ true → low a ≡ true → low b ≡ true
eq_low a b h k = grind (arith, nat_tests)

is_low : (b n : ℕ) → (b == n) ≡ true → low n ≡ true → low b ≡ true
is_low b n h k = grind (arith, nat_tests)

mark_low : (bs : List ℕ) → is_mark bs ≡ true → list_all low bs ≡ true
mark_low [] h = refl
mark_low (a ∷ []) h = ap (λ x. x && true) (among_passes low (codes "()[]{},;:+-*&|^~<>=!%") a h refl)
mark_low (a ∷ b ∷ []) h =
    either_way ((b == 61) && among (codes "+-*&|^<>=!") a) ((a == b) && among (codes "+-&|<>") a) h
    (λ k. let p = both (b == 61) (among (codes "+-*&|^<>=!") a) k in two (among_passes low (codes "+-*&|^<>=!") a p.1 refl) (is_low b 61 p.0 refl))
    (λ k. let p = both (a == b) (among (codes "+-&|<>") a) k in let l = among_passes low (codes "+-&|<>") a p.1 refl in two l (eq_low a b p.0 l))
  where
    two : low a ≡ true → low b ≡ true → list_all low (a ∷ b ∷ []) ≡ true
    two x y = ap (λ t. t && (low b && true)) x ∙ ap (λ t. t && true) y
mark_low (a ∷ b ∷ c ∷ []) h =
    let p = both ((a == b) && among (codes "<>") a) (c == 61) h in
    let q = both (a == b) (among (codes "<>") a) p.0 in
    let l = among_passes low (codes "<>") a q.1 refl in
    ap (λ t. t && (low b && (low c && true))) l ∙ ap (λ t. t && (low c && true)) (eq_low a b q.0 l) ∙ ap (λ t. t && true) (is_low c 61 p.1 refl)
mark_low (a ∷ b ∷ c ∷ e ∷ bs) h = absurd (cc)

value_low : (bs : List ℕ) → is_value bs ≡ true → list_all low bs ≡ true
value_low bs h =
    let p = value_is bs h in
    ap (list_all low) p.1 ∙ both_low (leading_digits bs) (codes "ULL") (all_low is_digit digit_low (leading_digits bs) (number_digits (leading_digits bs) p.0)) refl

token_low : (k : Kind) (bs : List ℕ) → are_bytes k bs ≡ true → is_header_kind k ≡ false → list_all low bs ≡ true
token_low Word bs h e = word_low bs h
token_low Number bs h e = all_low is_digit digit_low bs (number_digits bs (both _ _ h).0)
token_low Value bs h e = value_low bs (both _ _ h).0
token_low Header bs h e = absurd (cc)
token_low Hash bs h e = same_low bs (codes "#") h refl
token_low LineEnd bs h e = either_way (same bs (codes "\n")) (same bs []) h (λ k. same_low bs (codes "\n") k refl) (λ k. same_low bs [] k refl)
token_low Prelude bs h e = same_low bs prelude h refl
token_low Mark bs h e = mark_low bs h

below : (b : ℕ) → low b ≡ true → b < 128
below b h = grind (arith, nat_tests)

lows : (bs : List ℕ) → list_all low bs ≡ true → All (λ b. b < 128) bs
lows [] h = λ k d lt. absurd (omega (arith, lt))
lows (b ∷ bs) h =
    let p = both (low b) (list_all low bs) h in
    All-cons (λ x. x < 128) b bs (below b p.0) (lows bs p.1)

pub token_utf8 : (k : Kind) (bs : List ℕ) → are_bytes k bs ≡ true → is_header_kind k ≡ false → IsUtf8 bs
token_utf8 k bs h e = IsUtf8-from_ascii bs (IsAscii-from_all bs (lows bs (token_low k bs h e)))
