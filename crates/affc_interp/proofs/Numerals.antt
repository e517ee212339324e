-- Numbers in decimal digits, and what stands behind them.
use Rattle.std.proofs.Common.{◌≡◌, ◌≢◌, ◌<◌, ◌≤◌, ◌+◌, ◌*◌, ◌-◌, ◌^◌, ◌==◌, nat_lt, ℕ, zero, suc, ℤ, pos, negsuc, Bool, true, false, not, ◌&&◌, List, [], ◌∷◌, ◌++◌, length, take, drop, get_or, fold, refl, sym, ap, subst, ◌∙◌, arith, rules, take-append-drop, decimal}
use Rattle.std.specs.List.{list_all, prefix_len}
use Rattle.std.proofs.lemmas.List.{take_at, drop_at}
use Rattle.std.proofs.lemmas.Fmt.{digits_decimal, digits_value-decimal, decimal-digits_value, decimal_nonempty, first_decimal, decimal_digit}
use Rattle.std.proofs.lemmas.Str.Parse.{IsDigitsTest, FoldsDigits, IsNumeralModel, numerals_by_fold}
use Rattle.std.proofs.lemmas.Bool.{and_parts, eq-eqb, not-true, true≢false}
use Rattle.std.proofs.lemmas.Bool.Decides.{nat_tests}
use Rattle.std.specs.Prelude.{IsTrue, codes}
use Rattle.affc_ast.specs.Index.{is_int64}
use Rattle.affc_lex.specs.Bytes.{is_digit, next_is, begins, decimal as value_of}
use Rattle.affc_lex.proofs.Lists.{run_at, run_stops}
use Rattle.affc_lex.proofs.Runs.{run_passes}
use Rattle.affc_interp.specs.Scans.{NoDigit, is_plain, IsNatural, NoNatural, IsInteger, NoInteger}

abbrev pub AreDigits : List ℕ → Type 0
AreDigits ds = list_all is_digit ds ≡ true

are_digits : IsDigitsTest AreDigits
are_digits = search rules

folds : FoldsDigits (λ n ds. fold (λ n b. 10 * n + (b - 48)) n ds)
folds = search rules

pub numerals : IsNumeralModel AreDigits value_of
numerals = numerals_by_fold AreDigits are_digits (λ n ds. fold (λ n b. 10 * n + (b - 48)) n ds) folds

pub value_of-decimal : (n : ℕ) → n < 2 ^ 64 → value_of (decimal n) ≡ n
value_of-decimal n lt = digits_value-decimal numerals n lt

pub digits_of_decimal : (n : ℕ) → n < 2 ^ 64 → AreDigits (decimal n)
digits_of_decimal n lt = digits_decimal numerals n lt

-- digits behind which none goes on are all that a text begins with
pub all_digits : (ds rest text : List ℕ) → AreDigits ds → NoDigit rest → text ≡ ds ++ rest → (take (prefix_len is_digit text) text ≡ ds) × (drop (prefix_len is_digit text) text ≡ rest)
all_digits ds rest text d n e =
    let run : prefix_len is_digit text ≡ length ds = ap (prefix_len is_digit) e ∙ run_at is_digit ds rest d (ap not n) in
    ((λ i. take (run i) (e i)) ∙ take_at ds rest (length ds) refl, (λ i. drop (run i) (e i)) ∙ drop_at ds rest (length ds) refl)

-- a text cut behind its digits
pub front_is : (text : List ℕ) (n : ℕ) (front : List ℕ) → n ≡ prefix_len is_digit text → front ≡ take n text → front ≡ take (prefix_len is_digit text) text
front_is text n front e f = f ∙ ap (λ k. take k text) e

pub back_is : (text : List ℕ) (n : ℕ) (back : List ℕ) → n ≡ prefix_len is_digit text → back ≡ drop n text → back ≡ drop (prefix_len is_digit text) text
back_is text n back e f = f ∙ ap (λ k. drop k text) e

pub one_natural : (text : List ℕ) (v w : ℕ) (rest more : List ℕ) → IsNatural text v rest → IsNatural text w more → (v ≡ w) × (rest ≡ more)
one_natural text v w rest more p q =
    let a = all_digits (decimal v) rest text (digits_of_decimal v p.0) p.1 p.2 in
    let b = all_digits (decimal w) more text (digits_of_decimal w q.0) q.1 q.2 in
    (sym (value_of-decimal v p.0) ∙ ap value_of (sym a.0 ∙ b.0) ∙ value_of-decimal w q.0, sym a.1 ∙ b.1)

-- the digits of a number that stands at the beginning of a text
pub digits_there : (text ds : List ℕ) (v : ℕ) (rest : List ℕ) → ds ≡ take (prefix_len is_digit text) text → IsNatural text v rest → ds ≡ decimal v
digits_there text ds v rest e p = e ∙ (all_digits (decimal v) rest text (digits_of_decimal v p.0) p.1 p.2).0

same_first : (d : ℕ) → not (d == 48) ≡ false → d ≡ 48
same_first d h = grind (arith, nat_tests)

pub none_plain : (text ds : List ℕ) → ds ≡ take (prefix_len is_digit text) text → is_plain ds ≡ false → NoNatural text
none_plain text ds e h v rest p = plain v p.0 (ap is_plain (sym (digits_there text ds v rest e p)) ∙ h) where
  leads : (ds : List ℕ) → 0 < length ds → 48 < get_or ds 0 0 → is_plain ds ≡ false → ⊥
  leads [] some big h = omega arith
  leads (d ∷ []) some big h = cc
  leads (d ∷ x ∷ more) some big h = omega (arith, same_first d h)

  plain : (v : ℕ) → v < 2 ^ 64 → is_plain (decimal v) ≡ false → ⊥
  plain zero lt h = true≢false (ap is_plain (sym (decimal_digit 0 (omega arith))) ∙ h)
  plain (suc n) lt h = leads (decimal (suc n)) (decimal_nonempty (suc n) lt) (first_decimal (suc n) (omega arith) lt) h

pub none_large : (text ds : List ℕ) → ds ≡ take (prefix_len is_digit text) text → (value_of ds < 2 ^ 64 → ⊥) → NoNatural text
none_large text ds e large v rest p =
    let at : ds ≡ decimal v = digits_there text ds v rest e p in
    large (omega (arith, p.0, ap value_of at ∙ value_of-decimal v p.0))

plain_some : (ds : List ℕ) → is_plain ds ≡ true → 0 < length ds
plain_some [] h = absurd (true≢false (sym h))
plain_some (d ∷ ds) h = omega arith

plain_lead : (ds : List ℕ) → is_plain ds ≡ true → get_or ds 0 0 ≡ 48 → length ds ≡ 1
plain_lead [] h zero_first = absurd (true≢false (sym h))
plain_lead (d ∷ []) h zero_first = omega arith
plain_lead (d ∷ x ∷ more) h zero_first = absurd (true≢false (sym h ∙ ap not (eq-eqb d 48 zero_first)))

stopped : (rest : List ℕ) → not (next_is is_digit rest) ≡ true → NoDigit rest
stopped rest h = not-true (next_is is_digit rest) h

pub natural_here : (text ds rest : List ℕ) (v : ℕ) → ds ≡ take (prefix_len is_digit text) text → rest ≡ drop (prefix_len is_digit text) text → is_plain ds ≡ true → value_of ds < 2 ^ 64 → v ≡ value_of ds → IsNatural text v rest
natural_here text ds rest v e r plain small is =
    let passes : AreDigits ds = subst AreDigits (sym e) (run_passes is_digit text) in
    let stops : NoDigit rest = subst NoDigit (sym r) (stopped (drop (prefix_len is_digit text) text) (run_stops is_digit text)) in (
      omega (arith, is),
      stops,
      sym (take-append-drop (prefix_len is_digit text) text) ∙ (λ i. sym e i ++ sym r i)
          ∙ ap (λ l. l ++ rest) (sym (decimal-digits_value numerals ds passes (plain_some ds plain) (plain_lead ds plain) small) ∙ ap decimal (sym is)),
    )

-- ---- With a sign

no_sign : (ds rest more : List ℕ) → AreDigits ds → 0 < length ds → ds ++ rest ≡ 45 ∷ more → ⊥
no_sign [] rest more d some e = omega arith
no_sign (c ∷ ds) rest more d some e =
    let first : c ≡ 45 = ap (λ l. get_or l 0 0) e in
    true≢false (sym (and_parts (is_digit c) (list_all is_digit ds) d).0 ∙ ap is_digit first)

unsigned : (n : ℕ) (rest more : List ℕ) → n < 2 ^ 64 → decimal n ++ rest ≡ 45 ∷ more → ⊥
unsigned n rest more lt e = no_sign (decimal n) rest more (digits_of_decimal n lt) (decimal_nonempty n lt) e

pub small_positive : (n : ℕ) → IsTrue (is_int64 (pos n)) → n < 2 ^ 63
small_positive n h = search (rules, nat_tests)

below : (n : ℕ) → n < 2 ^ 63 → IsTrue (nat_lt n (2 ^ 63))
below n h = grind (arith, nat_tests)

pub small_negative : (n : ℕ) → IsTrue (is_int64 (negsuc n)) → n < 2 ^ 63
small_negative n h = search (rules, nat_tests)

pub one_integer : (text : List ℕ) (y z : ℤ) (rest more : List ℕ) → IsInteger text y rest → IsInteger text z more → (y ≡ z) × (rest ≡ more)
one_integer text (pos m) (pos n) rest more p q =
    let u = one_natural text m n rest more (omega (arith, small_positive m p.0), p.1, p.2) (omega (arith, small_positive n q.0), q.1, q.2) in
    (ap pos u.0, u.1)
one_integer text (pos m) (negsuc n) rest more p q = absurd (unsigned m rest (decimal (suc n) ++ more) (omega (arith, small_positive m p.0)) (sym p.2 ∙ q.2))
one_integer text (negsuc m) (pos n) rest more p q = absurd (unsigned n more (decimal (suc m) ++ rest) (omega (arith, small_positive n q.0)) (sym q.2 ∙ p.2))
one_integer text (negsuc m) (negsuc n) rest more p q =
    let u = one_natural (drop 1 text) (suc m) (suc n) rest more (omega (arith, small_negative m p.0), p.1, ap (drop 1) p.2) (omega (arith, small_negative n q.0), q.1, ap (drop 1) q.2) in
    (ap negsuc (omega (arith, u.0)), u.1)

pub negative_only : (text rest : List ℕ) (z : ℤ) → IsInteger (45 ∷ text) z rest → (n : ℕ) × IsNatural text n rest × (0 < n) × (n ≤ 2 ^ 63)
negative_only text rest (pos n) p = absurd (unsigned n rest text (omega (arith, small_positive n p.0)) (sym p.2))
negative_only text rest (negsuc n) p = (suc n, (omega (arith, small_negative n p.0), p.1, ap (drop 1) p.2), omega arith, omega (arith, small_negative n p.0))

-- none without the magnitude
pub no_negative : (text : List ℕ) → NoNatural text → NoInteger (45 ∷ text)
no_negative text none z rest p = let q = negative_only text rest z p in none q.0 rest q.1

pub no_large_negative : (text rest : List ℕ) (n : ℕ) → IsNatural text n rest → ((0 < n) × (n ≤ 2 ^ 63) → ⊥) → NoInteger (45 ∷ text)
no_large_negative text rest n here out z more p =
    let q = negative_only text more z p in
    let u = one_natural text n q.0 rest more here q.1 in
    out (omega (arith, q.2, u.0), omega (arith, q.3, u.0))

-- a text that goes on behind no sign begins with none
pub no_minus : (text : List ℕ) → ((rest : List ℕ) → text ≢ codes "-" ++ rest) → begins (codes "-") text ≡ false
no_minus [] h = refl
no_minus (x ∷ xs) h = by_test (45 == x) refl
  where
    same : (45 == x) ≡ true → 45 ≡ x
    same e = grind (arith, nat_tests)

    by_test : (b : Bool) → (45 == x) ≡ b → (b && true) ≡ false
    by_test true e = absurd (h xs (ap (λ n. n ∷ xs) (sym (same e))))
    by_test false e = refl

pub positive_only : (text rest : List ℕ) (z : ℤ) → begins (codes "-") text ≡ false → IsInteger text z rest → (n : ℕ) × IsNatural text n rest × (n < 2 ^ 63)
positive_only text rest (pos n) plain p = (n, (omega (arith, small_positive n p.0), p.1, p.2), small_positive n p.0)
positive_only text rest (negsuc n) plain p = absurd (true≢false (sym (ap (begins (codes "-")) p.2) ∙ plain))

pub no_large_positive : (text rest : List ℕ) (n : ℕ) → begins (codes "-") text ≡ false → IsNatural text n rest → (n < 2 ^ 63 → ⊥) → NoInteger text
no_large_positive text rest n plain here out z more p =
    let q = positive_only text more z plain p in
    let u = one_natural text n q.0 rest more here q.1 in
    out (omega (arith, q.2, u.0))
