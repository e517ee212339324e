-- Digits that write a number.
use Rattle.std.proofs.Common.{◌≡◌, ◌≤◌, ◌<◌, ◌^◌, ℕ, Bool, true, false, List, [], ◌∷◌, length, None, refl, arith}
use Rattle.std.proofs.lemmas.Bool.{and_parts}
use Rattle.std.specs.Char.{is_ascii_digit}
use Rattle.std.specs.List.{list_all}
use Rattle.std.specs.Prelude.{◌==◌, nat_le}
use Rattle.std.specs.Str.Parse.{AllDigits, IsNumeral, digits_value, without_leading_plus}
use Rattle.std.proofs.lemmas.Bool.Decides.{nat_tests}
use Rattle.std.proofs.lemmas.Str.{digit_value_digit}
use Rattle.affc_words.specs.Command.{number_to}
use Rattle.affc_words.proofs.Clap.Uses.{and_false}

digit_range : (c : ℕ) → is_ascii_digit c ≡ true → (48 ≤ c) × (c ≤ 57)
digit_range c e = (grind (arith, nat_tests), grind (arith, nat_tests))

all_digits : (text : List ℕ) → list_all is_ascii_digit text ≡ true → AllDigits 10 text
all_digits [] e = tt
all_digits (c ∷ text) e =
    let parts = and_parts (is_ascii_digit c) (list_all is_ascii_digit text) e in
    let range = digit_range c parts.0 in
    let value = digit_value_digit c range in
    (omega arith, all_digits text parts.1)

no_plus : (text : List ℕ) → list_all is_ascii_digit text ≡ true → without_leading_plus text ≡ text
no_plus [] e = refl
no_plus (c ∷ text) e =
    let range = digit_range c (and_parts (is_ascii_digit c) (list_all is_ascii_digit text) e).0 in
    go (c == 43) refl range
  where
    go : (b : Bool) → (c == 43) ≡ b → (48 ≤ c) × (c ≤ 57) → without_leading_plus (c ∷ text) ≡ c ∷ text
    go false f range = rw f refl
    go true f range = absurd (grind (arith, nat_tests))

-- digits that are read as no number below 2^64
pub number_to-none : (most : ℕ) (text : List ℕ) → most < 2 ^ 64 → list_all is_ascii_digit text ≡ true
    → (IsNumeral 10 (without_leading_plus text) × (digits_value 10 (without_leading_plus text) < 2 ^ 64) → ⊥) → None ≡ number_to most text
number_to-none most text fits digits none =
    let plain = no_plus text digits in
    let refused = rw plain at none in
    go (nat_le 1 (length text)) (nat_le (digits_value 10 text) most) refl refl refused
  where
    go : (a b : Bool) → nat_le 1 (length text) ≡ a → nat_le (digits_value 10 text) most ≡ b
        → (IsNumeral 10 text × (digits_value 10 text < 2 ^ 64) → ⊥) → None ≡ number_to most text
    go false b e f refused = rw e refl
    go true false e f refused = rw (e, f, and_false) refl
    go true true e f refused =
        let long : 1 ≤ length text = grind (arith, nat_tests) in
        let small : digits_value 10 text ≤ most = grind (arith, nat_tests) in
        absurd (refused ((long, all_digits text digits), omega arith))
