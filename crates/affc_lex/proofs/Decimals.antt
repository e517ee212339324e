-- The number that digits write, digit by digit.
use Rattle.std.proofs.Common.{◌≡◌, ℕ, ◌+◌, ◌-◌, ◌*◌, ◌<◌, ◌≤◌, List, [], ◌∷◌, ◌++◌, length, get_or, take, drop, refl, sym, ap, ◌∙◌, subst, arith, fold}
use Rattle.std.proofs.lemmas.List.{take_more, take-append-drop, take_all}
use Rattle.affc_lex.specs.Bytes.{decimal}

abbrev pub digit_step : ℕ → ℕ → ℕ
digit_step n b = 10 * n + (b - 48)

step_append : (n : ℕ) (xs ys : List ℕ) → fold digit_step n (xs ++ ys) ≡ fold digit_step (fold digit_step n xs) ys
step_append n [] ys = refl
step_append n (x ∷ xs) ys = step_append (digit_step n x) xs ys

step_grows : (n : ℕ) (xs : List ℕ) → n ≤ fold digit_step n xs
step_grows n [] = omega arith
step_grows n (x ∷ xs) = omega (arith, step_grows (digit_step n x) xs)

pub decimal_front : (xs ys : List ℕ) → decimal xs ≤ decimal (xs ++ ys)
decimal_front xs ys = subst (λ m. decimal xs ≤ m) (sym (step_append 0 xs ys)) (step_grows (decimal xs) ys)

pub decimal_take : (xs : List ℕ) (i : ℕ) → decimal (take i xs) ≤ decimal xs
decimal_take xs i = subst (λ zs. decimal (take i xs) ≤ decimal zs) (take-append-drop i xs) (decimal_front (take i xs) (drop i xs))

pub decimal_more : (xs : List ℕ) (i : ℕ) → i < length xs → decimal (take (i + 1) xs) ≡ 10 * decimal (take i xs) + (get_or xs i 0 - 48)
decimal_more xs i within = ap decimal (take_more xs i 0 within) ∙ step_append 0 (take i xs) (get_or xs i 0 ∷ [])

pub decimal_all : (xs : List ℕ) (i : ℕ) → length xs ≤ i → decimal (take i xs) ≡ decimal xs
decimal_all xs i past = ap decimal (take_all i xs past)

pub ruleset decimals = (decimal_take, decimal_more, decimal_all)
