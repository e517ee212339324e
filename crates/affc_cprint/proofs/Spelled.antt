-- Words, numbers and marks, and what may stand behind them.
use Rattle.std.proofs.Common.{◌≡◌, ◌<◌, ◌^◌, ◌&&◌, ◌||◌, ◌==◌, ℕ, zero, suc, Bool, true, false, not, nat_lt, List, [], ◌∷◌, ◌++◌, length, get_or, codes, drop, refl, ap, sym, ◌∙◌, arith}
use Rattle.std.specs.List.{list_all}
use Rattle.std.specs.Fmt.{decimal, digits}
use Rattle.std.proofs.lemmas.Bool.{eqb-true, and_parts, and_from, false≢true, ltb-true, lt-ltb}
use Rattle.std.proofs.lemmas.List.Folds.{list_all-append}
use Rattle.std.proofs.lemmas.Fmt.{decimal_nonempty, first_decimal}
use Rattle.affc_lex.specs.declared.token.Kind.{Kind}
use Rattle.affc_lex.specs.declared.token.Kind.TheVariants.{Word, Hash}
use Rattle.affc_lex.specs.Bytes.{is_letter, is_digit, is_letter_or_digit, next_is, same, begins, among, decimal as value_of}
use Rattle.affc_lex.specs.Pieces.{is_word, is_number, is_value, is_small, is_mark, leading_digits, behind_digits, longer_mark, prelude}
use Rattle.affc_lex.specs.Lexes.{contains_refused}
use Rattle.affc_grammar.specs.Grammar.{Symbol, word, number}
use Rattle.affc_grammar.specs.Reads.{can_have}
use Rattle.affc_cprint.proofs.Numbers.{AreDigits, value_of-decimal, digits_of_decimal}
use Rattle.affc_cprint.proofs.Stretch.{Calm}

pub not_true : (b : Bool) → (b ≡ true → ⊥) → b ≡ false
not_true true h = absurd (h refl)
not_true false h = refl

pub never : {A : Type 0} {b : Bool} → b ≡ true → b ≡ false → A
never t f = absurd (false≢true (sym f ∙ t))

-- ---- Symbols that a text can have

-- no `static`, with which the prelude begins, and no `#`
abbrev pub is_other : Kind → List ℕ → Bool
is_other Word bytes = not (same (codes "static") bytes)
is_other Hash bytes = false
is_other _ bytes = true

abbrev pub can_stand : Symbol → Bool
can_stand s = can_have s.kind s.bytes && is_other s.kind s.bytes

abbrev pub AllHave : List Symbol → Type 0
AllHave ss = list_all (λ s. can_have s.kind s.bytes) ss ≡ true

abbrev pub AllStand : List Symbol → Type 0
AllStand ss = list_all can_stand ss ≡ true

pub have_parts : (xs ys : List Symbol) → AllHave (xs ++ ys) → AllHave xs × AllHave ys
have_parts xs ys e =
    let p = and_parts (list_all (λ s. can_have s.kind s.bytes) xs) (list_all (λ s. can_have s.kind s.bytes) ys) (sym (list_all-append (λ s. can_have s.kind s.bytes) xs ys) ∙ e) in
    (p.0, p.1)

pub stand_parts : (xs ys : List Symbol) → AllStand (xs ++ ys) → AllStand xs × AllStand ys
stand_parts xs ys e = let p = and_parts (list_all can_stand xs) (list_all can_stand ys) (sym (list_all-append can_stand xs ys) ∙ e) in (p.0, p.1)

pub stand_both : (xs ys : List Symbol) → AllStand xs → AllStand ys → AllStand (xs ++ ys)
stand_both xs ys p q = list_all-append can_stand xs ys ∙ and_from _ _ p q

-- ---- Bytes

-- no letter and no digit comes next
abbrev pub Loose : List ℕ → Type 0
Loose after = next_is is_letter_or_digit after ≡ false

letter_is_either : (b : ℕ) → is_letter b ≡ true → is_letter_or_digit b ≡ true
letter_is_either b h = rw h refl

digit_is_either : (b : ℕ) → is_digit b ≡ true → is_letter_or_digit b ≡ true
digit_is_either b h = either (is_letter b) h
  where
    either : (a : Bool) → is_digit b ≡ true → (a || is_digit b) ≡ true
    either true e = refl
    either false e = e

pub letters_of_word : (w : List ℕ) → is_word w ≡ true → list_all is_letter_or_digit w ≡ true
letters_of_word [] h = refl
letters_of_word (b ∷ bs) h = let p = and_parts (is_letter b) (list_all is_letter_or_digit bs) h in and_from _ _ (letter_is_either b p.0) p.1

pub letters_of_digits : (ds : List ℕ) → list_all is_digit ds ≡ true → list_all is_letter_or_digit ds ≡ true
letters_of_digits [] h = refl
letters_of_digits (b ∷ bs) h = let p = and_parts (is_digit b) (list_all is_digit bs) h in and_from _ _ (digit_is_either b p.0) (letters_of_digits bs p.1)

unlike : (c : ℕ) → is_letter_or_digit c ≡ false → (b : ℕ) → is_letter_or_digit b ≡ true → (c == b) ≡ false
unlike c h b l = not_true (c == b) (λ e. never (ap is_letter_or_digit (eqb-true c b e) ∙ l) h)

letter_calm : (b : ℕ) (xs : List ℕ) → is_letter_or_digit b ≡ true → contains_refused (b ∷ xs) ≡ contains_refused xs
letter_calm b xs h = rw (unlike 92 refl b h) (rw (unlike 63 refl b h) refl)

-- letters and digits are in no refused sequence
pub letters_calm : (bs : List ℕ) → list_all is_letter_or_digit bs ≡ true → Calm bs
letters_calm [] h rest e = e
letters_calm (b ∷ bs) h rest e =
    let p = and_parts (is_letter_or_digit b) (list_all is_letter_or_digit bs) h in
    letter_calm b (bs ++ rest) p.0 ∙ letters_calm bs p.1 rest e

-- ---- Words

-- A text of a word and another byte begins with a text of a word and another byte only where the words are the same.
same_word : (first more w after : List ℕ) (d : ℕ)
    → list_all is_letter_or_digit first ≡ true → is_letter_or_digit d ≡ false → list_all is_letter_or_digit w ≡ true → Loose after
    → begins (first ++ d ∷ more) (w ++ after) ≡ true → same first w ≡ true
same_word [] more [] after d hf hd hw loose h = refl
same_word [] more (y ∷ ys) after d hf hd hw loose h =
    let p = and_parts (is_letter_or_digit y) (list_all is_letter_or_digit ys) hw in
    never (and_parts (d == y) (begins more (ys ++ after)) h).0 (unlike d hd y p.0)
same_word (x ∷ xs) more [] [] d hf hd hw loose h = absurd (false≢true h)
same_word (x ∷ xs) more [] (c ∷ after) d hf hd hw loose h =
    let p = and_parts (is_letter_or_digit x) (list_all is_letter_or_digit xs) hf in
    never (ap is_letter_or_digit (sym (eqb-true x c (and_parts (x == c) (begins (xs ++ d ∷ more) after) h).0)) ∙ p.0) loose
same_word (x ∷ xs) more (y ∷ ys) after d hf hd hw loose h =
    let p = and_parts (is_letter_or_digit x) (list_all is_letter_or_digit xs) hf in
    let q = and_parts (is_letter_or_digit y) (list_all is_letter_or_digit ys) hw in
    let r = and_parts (x == y) (begins (xs ++ d ∷ more) (ys ++ after)) h in
    and_from _ _ r.0 (same_word xs more ys after d p.1 hd q.1 loose r.1)

-- a word other than `static` doesn't begin the prelude
pub no_prelude : (w after : List ℕ) → is_word w ≡ true → Loose after → same (codes "static") w ≡ false → begins prelude (w ++ after) ≡ false
no_prelude w after is loose other =
    not_true (begins prelude (w ++ after)) (λ h. never (same_word (codes "static") (drop 7 prelude) w after 32 refl refl (letters_of_word w is) loose h) other)

pub record IsName (w : List ℕ) : Type 0 where
  pub is : is_word w ≡ true
  pub other : same (codes "static") w ≡ false

pub off : (b : Bool) → not b ≡ true → b ≡ false
off true h = absurd (false≢true h)
off false h = refl

pub on_off : {b : Bool} → b ≡ false → not b ≡ true
on_off e = ap not e

pub name_of_symbol : (w : List ℕ) (ss : List Symbol) → AllStand (word w ∷ ss) → IsName w × AllStand ss
name_of_symbol w ss h =
    let p = and_parts (is_word w && not (same (codes "static") w)) (list_all can_stand ss) h in
    let q = and_parts (is_word w) (not (same (codes "static") w)) p.0 in
    (record { is = q.0; other = off (same (codes "static") w) q.1 }, p.1)

pub symbol_of_name : (w : List ℕ) (ss : List Symbol) → IsName w → AllStand ss → AllStand (word w ∷ ss)
symbol_of_name w ss n h = and_from _ _ (and_from _ _ n.is (on_off n.other)) h

-- ---- Numbers

pub record IsNumeral (ds : List ℕ) : Type 0 where
  pub is : is_number ds ≡ true
  pub small : is_small ds ≡ true

pub numeral_of_symbol : (ds : List ℕ) (ss : List Symbol) → AllStand (number ds ∷ ss) → IsNumeral ds × AllStand ss
numeral_of_symbol ds ss h =
    let p = and_parts ((is_number ds && is_small ds) && true) (list_all can_stand ss) h in
    let q = and_parts (is_number ds) (is_small ds) (and_parts (is_number ds && is_small ds) true p.0).0 in
    (record { is = q.0; small = q.1 }, p.1)

pub symbol_of_numeral : (ds : List ℕ) (ss : List Symbol) → IsNumeral ds → AllStand ss → AllStand (number ds ∷ ss)
symbol_of_numeral ds ss n h = and_from _ _ (and_from _ _ (and_from _ _ n.is n.small) refl) h

pub digits_of_number : (ds : List ℕ) → is_number ds ≡ true → AreDigits ds
digits_of_number [] h = refl
digits_of_number (b ∷ []) h = and_from _ _ h refl
digits_of_number (b ∷ c ∷ bs) h =
    let p = and_parts (is_digit b && not (b == 48)) (list_all is_digit (c ∷ bs)) h in
    and_from _ _ (and_parts (is_digit b) (not (b == 48)) p.0).0 p.1

number_of_digits : (ds : List ℕ) → AreDigits ds → 0 < length ds → 48 < get_or ds 0 0 → is_number ds ≡ true
number_of_digits [] all some first = absurd (omega arith)
number_of_digits (b ∷ []) all some first = (and_parts (is_digit b) true all).0
number_of_digits (b ∷ c ∷ bs) all some first =
    let p = and_parts (is_digit b) (list_all is_digit (c ∷ bs)) all in
    and_from _ _ (and_from _ _ p.0 (on_off (not_true (b == 48) (λ e. let same_byte : b ≡ 48 = eqb-true b 48 e in absurd (omega arith))))) p.1

zero_is_number : is_number (decimal 0) ≡ true
unfolding digits
zero_is_number = refl

pub decimal_is_number : (n : ℕ) → n < 2 ^ 64 → is_number (decimal n) ≡ true
decimal_is_number zero lt = zero_is_number
decimal_is_number (suc n) lt = number_of_digits (decimal (suc n)) (digits_of_decimal (suc n) lt) (decimal_nonempty (suc n) lt) (first_decimal (suc n) (omega arith) lt)

pub decimal_is_numeral : (n : ℕ) → n < 2 ^ 64 → IsNumeral (decimal n)
decimal_is_numeral n lt = record { is = decimal_is_number n lt; small = ap (λ x. nat_lt x (2 ^ 64)) (value_of-decimal n lt) ∙ lt-ltb n (2 ^ 64) lt }

pub small_value : (ds : List ℕ) → is_small ds ≡ true → value_of ds < 2 ^ 64
small_value ds h = ltb-true (value_of ds) (2 ^ 64) h

-- ---- Values

pub record IsConstant (bytes : List ℕ) : Type 0 where
  pub is : is_value bytes ≡ true
  pub small : is_small (leading_digits bytes) ≡ true

leading : (ds : List ℕ) → AreDigits ds → (leading_digits (ds ++ codes "ULL") ≡ ds) × (behind_digits (ds ++ codes "ULL") ≡ codes "ULL")
leading [] all = (refl, refl)
leading (b ∷ bs) all =
    let p = and_parts (is_digit b) (list_all is_digit bs) all in
    let q = leading bs p.1 in
    let digits : leading_digits (b ∷ (bs ++ codes "ULL")) ≡ b ∷ bs = rw p.0 (ap (λ x. b ∷ x) q.0) in
    let behind : behind_digits (b ∷ (bs ++ codes "ULL")) ≡ codes "ULL" = rw p.0 q.1 in
    (digits, behind)

pub leading_of_decimal : (n : ℕ) → n < 2 ^ 64 → leading_digits (decimal n ++ codes "ULL") ≡ decimal n
leading_of_decimal n lt = (leading (decimal n) (digits_of_decimal n lt)).0

pub decimal_is_constant : (n : ℕ) → n < 2 ^ 64 → IsConstant (decimal n ++ codes "ULL")
decimal_is_constant n lt =
    let p = leading (decimal n) (digits_of_decimal n lt) in
    let q = decimal_is_numeral n lt in
    record { is = and_from _ _ (ap is_number p.0 ∙ q.is) (ap (λ x. same x (codes "ULL")) p.1); small = ap is_small p.0 ∙ q.small }

-- the bytes of a value are letters and digits
letters_of_value : (bytes : List ℕ) → same (behind_digits bytes) (codes "ULL") ≡ true → list_all is_letter_or_digit bytes ≡ true
letters_of_value [] h = refl
letters_of_value (b ∷ bs) h = either (is_digit b) refl (letters_of_value bs)
  where
    same_is : (xs ys : List ℕ) → same xs ys ≡ true → list_all is_letter_or_digit ys ≡ true → list_all is_letter_or_digit xs ≡ true
    same_is [] [] e l = refl
    same_is [] (y ∷ ys) e l = refl
    same_is (x ∷ xs) [] e l = absurd (false≢true e)
    same_is (x ∷ xs) (y ∷ ys) e l =
        let p = and_parts (x == y) (same xs ys) e in
        let q = and_parts (is_letter_or_digit y) (list_all is_letter_or_digit ys) l in
        and_from _ _ (ap is_letter_or_digit (eqb-true x y p.0) ∙ q.0) (same_is xs ys p.1 q.1)

    goes_on : is_digit b ≡ true → same (behind_digits bs) (codes "ULL") ≡ true
    goes_on e = let step : behind_digits (b ∷ bs) ≡ behind_digits bs = rw e refl in ap (λ x. same x (codes "ULL")) (sym step) ∙ h

    stops : is_digit b ≡ false → same (b ∷ bs) (codes "ULL") ≡ true
    stops e = let step : behind_digits (b ∷ bs) ≡ b ∷ bs = rw e refl in ap (λ x. same x (codes "ULL")) (sym step) ∙ h

    either : (d : Bool) → is_digit b ≡ d → (same (behind_digits bs) (codes "ULL") ≡ true → list_all is_letter_or_digit bs ≡ true) → list_all is_letter_or_digit (b ∷ bs) ≡ true
    either true e more = and_from _ _ (digit_is_either b e) (more (goes_on e))
    either false e more = same_is (b ∷ bs) (codes "ULL") (stops e) refl

pub value_calm : (bytes : List ℕ) → is_value bytes ≡ true → Calm bytes
value_calm bytes h = letters_calm bytes (letters_of_value bytes (and_parts (is_number (leading_digits bytes)) (same (behind_digits bytes) (codes "ULL")) h).1)

-- ---- Marks

pair : (x y p q : Bool) → p ≡ false → q ≡ false → ((x && p) || (y && q)) ≡ false
pair true true p q e f = rw e f
pair true false p q e f = rw e refl
pair false true p q e f = f
pair false false p q e f = refl

triple : (x z p : Bool) → p ≡ false → ((x && p) && z) ≡ false
triple true z p e = rw e refl
triple false z p e = refl

either_false : (x y : Bool) → x ≡ false → y ≡ false → (x || y) ≡ false
either_false true y e f = e
either_false false y e f = f

-- a mark that begins no longer one
pub lone : (a : ℕ) → among (codes "+-*&|^<>=!") a ≡ false → among (codes "+-&|<>") a ≡ false → among (codes "<>") a ≡ false
    → (rest : List ℕ) → longer_mark (a ∷ []) rest ≡ false
lone a e f g [] = refl
lone a e f g (b ∷ []) = pair (b == 61) (a == b) (among (codes "+-*&|^<>=!") a) (among (codes "+-&|<>") a) e f
lone a e f g (b ∷ c ∷ rest) =
    either_false (is_mark (a ∷ b ∷ [])) (is_mark (a ∷ b ∷ c ∷ []))
    (pair (b == 61) (a == b) (among (codes "+-*&|^<>=!") a) (among (codes "+-&|<>") a) e f)
    (triple (a == b) (c == 61) (among (codes "<>") a) g)

and_false : (x : Bool) → (x && false) ≡ false
and_false true = refl
and_false false = refl

-- a mark before a space
pub spaced : (m rest : List ℕ) → is_mark m ≡ true → longer_mark m (32 ∷ rest) ≡ false
spaced [] rest h = refl
spaced (a ∷ []) rest h = at rest
  where
    no_space : (a == 32) ≡ false
    no_space = not_true (a == 32) (λ e. never h (ap (λ x. is_mark (x ∷ [])) (eqb-true a 32 e)))

    at : (rest : List ℕ) → longer_mark (a ∷ []) (32 ∷ rest) ≡ false
    at [] = rw no_space refl
    at (c ∷ rest) = rw no_space refl
spaced (a ∷ b ∷ []) rest h = and_false (a == b && among (codes "<>") a)
spaced (a ∷ b ∷ c ∷ m) rest h = refl

-- whether a byte goes on a minus
abbrev pub goes_on_minus : ℕ → Bool
goes_on_minus b = b == 61 || 45 == b

pub minus_before : (bytes : List ℕ) → next_is goes_on_minus bytes ≡ false → longer_mark (codes "-") bytes ≡ false
minus_before [] h = refl
minus_before (b ∷ []) h = of (b == 61) (45 == b) h
  where
    of : (x y : Bool) → (x || y) ≡ false → ((x && true) || (y && true)) ≡ false
    of false false e = refl
    of true y e = absurd (false≢true (sym e))
    of false true e = absurd (false≢true (sym e))
minus_before (b ∷ c ∷ rest) h = of (b == 61) (45 == b) h
  where
    of : (x y : Bool) → (x || y) ≡ false → (((x && true) || (y && true)) || ((y && false) && c == 61)) ≡ false
    of false false e = refl
    of true y e = absurd (false≢true (sym e))
    of false true e = absurd (false≢true (sym e))

-- letters and digits don't go on a minus
pub letter_no_minus : (b : ℕ) → is_letter_or_digit b ≡ true → goes_on_minus b ≡ false
letter_no_minus b h =
    let e : (b == 61) ≡ false = not_true (b == 61) (λ t. never (sym (ap is_letter_or_digit (eqb-true b 61 t)) ∙ h) refl) in
    rw e (unlike 45 refl b h)
