-- Tests on bytes, and on texts as lists of bytes.
use Rattle.std.specs.Prelude.{ℕ, ◌+◌, ◌-◌, ◌*◌, Bool, true, false, ◌&&◌, ◌||◌, ◌==◌, nat_le, nat_eq, List, [], ◌∷◌, fold, if◌then◌else◌}
use Rattle.std.specs.List.{list_any}
use Rattle.std.specs.Cmp.Lexicographic.{pointwise}

abbrev pub is_within : ℕ → ℕ → ℕ → Bool
is_within low high b = nat_le low b && nat_le b high

abbrev pub is_digit : ℕ → Bool
is_digit b = is_within 48 57 b

-- a letter or `_`
abbrev pub is_letter : ℕ → Bool
is_letter b = is_within 97 122 b || is_within 65 90 b || b == 95

abbrev pub is_letter_or_digit : ℕ → Bool
is_letter_or_digit b = is_letter b || is_digit b

abbrev pub is_line_feed : ℕ → Bool
is_line_feed b = b == 10

-- space, tab, line feed, carriage return
abbrev pub is_space : ℕ → Bool
is_space b = b == 32 || b == 9 || b == 10 || b == 13

abbrev pub among : List ℕ → ℕ → Bool
among bytes b = list_any (λ x. x == b) bytes

-- whether two texts are the same
abbrev pub same : List ℕ → List ℕ → Bool
same xs ys = pointwise nat_eq xs ys

-- whether the first text stands at the beginning of the second
abbrev pub begins : List ℕ → List ℕ → Bool
begins [] text = true
begins (x ∷ xs) [] = false
begins (x ∷ xs) (y ∷ ys) = x == y && begins xs ys

-- whether the text has a first byte, and it passes the test
abbrev pub next_is : (ℕ → Bool) → List ℕ → Bool
next_is test [] = false
next_is test (b ∷ bs) = test b

-- whether the first text stands somewhere in the second
abbrev pub contains : List ℕ → List ℕ → Bool
contains part [] = false
contains part (b ∷ bs) = begins part (b ∷ bs) || contains part bs

-- whether the first text stands at the end of the second, and nowhere before
abbrev pub ends_at_first : List ℕ → List ℕ → Bool
ends_at_first part [] = false
ends_at_first part (b ∷ bs) = if begins part (b ∷ bs) then same part (b ∷ bs) else ends_at_first part bs

-- the number that decimal digits write
abbrev pub decimal : List ℕ → ℕ
decimal digits = fold (λ n b. 10 * n + (b - 48)) 0 digits
