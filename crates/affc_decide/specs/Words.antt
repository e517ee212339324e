-- The words of a line, and what a word says.
use Rattle.std.specs.Prelude.{◌≡◌, ◌<◌, ℕ, List, [], ◌∷◌, ◌++◌, length, map, true, false, ℤ, FitsSigned}
use Rattle.std.specs.Borrow.{Bor}
use Rattle.std.specs.Char.{is_ascii_whitespace}
use Rattle.std.specs.Int.{w64}
use Rattle.std.specs.List.{All}
use Rattle.std.specs.Str.Parse.{IsNumeral, without_leading_sign, signed_digits_value}

-- the bytes of each word
abbrev pub texts_of : List (Bor (List ℕ)) → List (List ℕ)
texts_of words = map (λ w. w.now) words

-- every byte is a space: a blank, a tab, a line feed, a form feed or a carriage return
abbrev pub AllSpaces : List ℕ → Type 0
AllSpaces text = All (λ b. is_ascii_whitespace b ≡ true) text

-- no byte is a space
abbrev pub NoSpaces : List ℕ → Type 0
NoSpaces text = All (λ b. is_ascii_whitespace b ≡ false) text

-- one byte or more, and none of them a space
abbrev pub IsWord : List ℕ → Type 0
IsWord word = (0 < length word) × NoSpaces word

-- what stands behind spaces: nothing, or a byte that isn't one first
abbrev pub EndsSpaces : List ℕ → Type 0
EndsSpaces [] = Unit {0}
EndsSpaces (b ∷ rest) = is_ascii_whitespace b ≡ false

-- what stands behind a word: nothing, or a space first
abbrev pub EndsWord : List ℕ → Type 0
EndsWord [] = Unit {0}
EndsWord (b ∷ rest) = is_ascii_whitespace b ≡ true

-- the first word of a text, and what stands behind it
abbrev pub IsFirstWord : (text word rest : List ℕ) → Type 0
IsFirstWord text word rest = (gap : List ℕ) × (text ≡ gap ++ (word ++ rest)) × AllSpaces gap × IsWord word × EndsWord rest

-- the words of a text, in order: its longest runs of bytes that aren't spaces
abbrev pub AreWords : List ℕ → List (List ℕ) → Type 0
AreWords text [] = AllSpaces text
AreWords text (word ∷ words) = (rest : List ℕ) × IsFirstWord text word rest × AreWords rest words

-- the word is a decimal text of the number, which 64 bits hold
abbrev pub Says : List ℕ → ℤ → Type 0
Says word n = IsNumeral 10 (without_leading_sign word) × FitsSigned w64 n × (n ≡ signed_digits_value 10 word)

abbrev pub SaysNone : List ℕ → Type 0
SaysNone word = (n : ℤ) → Says word n → ⊥
