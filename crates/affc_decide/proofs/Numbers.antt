-- Digits are read one at a time, and a sign before them.
use Rattle.std.proofs.Common.{◌≡◌, ◌≢◌, ◌∙◌, refl, ap, subst, ℕ, zero, suc, ◌+◌, ◌*◌, ◌^◌, ◌<◌, ◌≤◌, List, [], ◌∷◌, length, get_or, drop, cond, ℤ, pos, neg_ℤ, FitsSigned, w64, arith}
use Rattle.std.proofs.Math.Seq.{drop-cons}
use Rattle.std.proofs.Math.ListN.{drop_of_length-le}
use Rattle.std.specs.Char.{digit_value}
use Rattle.std.specs.Str.Parse.{AllDigits, IsNumeral, digits_value_after, digits_value, without_leading_plus, without_leading_sign, signed_digits_value}
use borrow.Author.Tests.{ne_eqb}
use Rattle.affc_decide.specs.Words.{SaysNone}

-- of the digits `all`, those before `rest` write n
pub record IsRead (all rest : List ℕ) (n : ℕ) : Type 0 where
  pub value : digits_value_after 10 n rest ≡ digits_value 10 all
  pub back : AllDigits 10 rest → AllDigits 10 all
  pub on : AllDigits 10 all → AllDigits 10 rest

pub begun : (all : List ℕ) → IsRead all all 0
begun all = record { value = refl; back = λ h. h; on = λ h. h }

grows : (n : ℕ) (ds : List ℕ) → n ≤ digits_value_after 10 n ds
grows n [] = omega arith
grows n (c ∷ cs) = let more = grows (n * 10 + digit_value c) cs in omega (arith, more)

opened : (all bs : List ℕ) (at n : ℕ) → IsRead all (drop at bs) n → at < length bs → IsRead all (get_or bs at 0 ∷ drop (at + 1) bs) n
opened all bs at n read within =
    let next : suc at ≡ at + 1 = omega arith in
    subst (λ (l : List ℕ). IsRead all l n) (drop-cons bs at 0 within ∙ ap (λ (k : ℕ). get_or bs at 0 ∷ drop k bs) next) read

pub one_more : (all bs : List ℕ) (at n m : ℕ) → IsRead all (drop at bs) n → at < length bs → digit_value (get_or bs at 0) < 10 → m ≡ n * 10 + digit_value (get_or bs at 0) → IsRead all (drop (at + 1) bs) m
one_more all bs at n m read within digit is =
    let o = opened all bs at n read within in
    record { value = ap (λ (k : ℕ). digits_value_after 10 k (drop (at + 1) bs)) is ∙ o.value; back = λ r. o.back (digit, r); on = λ r. (o.on r).1 }

pub no_digit : (all bs : List ℕ) (at n : ℕ) → IsRead all (drop at bs) n → at < length bs → ¬ (digit_value (get_or bs at 0) < 10) → IsNumeral 10 all → ⊥
no_digit all bs at n read within none numeral = none ((opened all bs at n read within).on numeral.1).0

pub too_large : (all bs : List ℕ) (at n most : ℕ) → IsRead all (drop at bs) n → at < length bs → most < n * 10 → most < digits_value 10 all
too_large all bs at n most read within large =
    let o = opened all bs at n read within in
    let more = grows (n * 10 + digit_value (get_or bs at 0)) (drop (at + 1) bs) in
    omega (arith, o.value, more)

pub all_read : (all bs : List ℕ) (at n : ℕ) → IsRead all (drop at bs) n → length bs ≤ at → AllDigits 10 all × (n ≡ digits_value 10 all)
all_read all bs at n read past =
    let o : IsRead all [] n = subst (λ (l : List ℕ). IsRead all l n) (drop_of_length-le bs past) read in
    (o.back tt, o.value)

-- ---- Signs

other_rest : (bs : List ℕ) → get_or bs 0 0 ≢ 45 → without_leading_sign bs ≡ without_leading_plus bs
other_rest bs first = ap (λ t. cond t (drop 1 bs) (without_leading_plus bs)) (ne_eqb _ 45 first)

other_value : (bs : List ℕ) → get_or bs 0 0 ≢ 45 → signed_digits_value 10 bs ≡ pos (digits_value 10 (without_leading_plus bs))
other_value bs first =
    let ds = without_leading_sign bs in
    ap (λ t. cond t (neg_ℤ (pos (digits_value 10 ds))) (pos (digits_value 10 ds))) (ne_eqb _ 45 first)
    ∙ ap (λ (l : List ℕ). pos (digits_value 10 l)) (other_rest bs first)

pub none_plus : (bs ds : List ℕ) → get_or bs 0 0 ≢ 45 → without_leading_plus bs ≡ ds → (IsNumeral 10 ds → 2 ^ 63 ≤ digits_value 10 ds) → SaysNone bs
none_plus bs ds first rest none n says =
    let numeral : IsNumeral 10 ds = subst (λ (l : List ℕ). IsNumeral 10 l) (other_rest bs first ∙ rest) says.0 in
    let fits : FitsSigned w64 (pos (digits_value 10 ds)) = subst (λ (z : ℤ). FitsSigned w64 z) (says.2 ∙ other_value bs first ∙ ap (λ (l : List ℕ). pos (digits_value 10 l)) rest) says.1 in
    let large = none numeral in
    omega (arith, fits.sfits, large)
