-- Numbers in decimal digits.
use Rattle.std.proofs.Common.{◌≡◌, ◌<◌, ◌+◌, ◌*◌, ◌-◌, ◌^◌, ℕ, true, List, fold, nat_le, ap, rules}
use Rattle.std.specs.List.{list_all}
use Rattle.std.specs.Fmt.{decimal}
use Rattle.std.proofs.lemmas.Fmt.{digits_decimal, digits_value-decimal}
use Rattle.std.proofs.lemmas.Str.Parse.{IsDigitsTest, FoldsDigits, IsNumeralModel, numerals_by_fold}
use Rattle.affc_lex.specs.Bytes.{is_digit, decimal as value_of}
use Rattle.affc_grammar.specs.Grammar.{is_divisor, is_shift}

abbrev pub AreDigits : List ℕ → Type 0
AreDigits ds = list_all is_digit ds ≡ true

are_digits : IsDigitsTest AreDigits
are_digits = search rules

folds : FoldsDigits (λ n ds. fold (λ n b. 10 * n + (b - 48)) n ds)
folds = search rules

pub numerals : IsNumeralModel AreDigits value_of
numerals = numerals_by_fold AreDigits are_digits (λ n ds. fold (λ n b. 10 * n + (b - 48)) n ds) folds

pub value_of-decimal : (n : ℕ) → n < 2 ^ 64 → value_of (decimal n) ≡ n
value_of-decimal n lt = digits_value-decimal numerals n lt

pub digits_of_decimal : (n : ℕ) → n < 2 ^ 64 → AreDigits (decimal n)
digits_of_decimal n lt = digits_decimal numerals n lt

pub divisor_of : (n : ℕ) → n < 2 ^ 64 → is_divisor (decimal n) ≡ nat_le 1 n
divisor_of n lt = ap (nat_le 1) (value_of-decimal n lt)

pub shift_of : (n : ℕ) → n < 2 ^ 64 → is_shift (decimal n) ≡ nat_le n 63
shift_of n lt = ap (λ m. nat_le m 63) (value_of-decimal n lt)
