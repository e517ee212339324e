-- Texts of numbers that follow one another.
use Rattle.std.proofs.Common.{◌≡◌, ℕ, ◌+◌, ◌-◌, ◌≤◌, List, [], ◌∷◌, ◌++◌, map, sym, ap, ◌∙◌, arith}
use Rattle.std.specs.List.{flat_map, range_with_len}
use Rattle.std.proofs.lemmas.Grind.{flat_map-append}
use Rattle.std.proofs.lemmas.List.Folds.{flat_map-map}
use Rattle.std.proofs.lemmas.List.FromFn.{map-range_with_len_more}
use Rattle.std.proofs.lemmas.List.{append-nil, append_assoc}

flat_more : (f : ℕ → List ℕ) (a n j : ℕ) → a + n ≡ j → flat_map f (range_with_len a (n + 1)) ≡ flat_map f (range_with_len a n) ++ f j
flat_more f a n j e =
    sym (flat_map-map (λ x. x) f (range_with_len a (n + 1)))
    ∙ ap (flat_map (λ x. x)) (map-range_with_len_more f a n j e)
    ∙ flat_map-append (λ x. x) (map f (range_with_len a n)) (f j ∷ [])
    ∙ ap (λ xs. xs ++ (f j ++ [])) (flat_map-map (λ x. x) f (range_with_len a n))
    ∙ ap (λ xs. flat_map f (range_with_len a n) ++ xs) (append-nil (f j))

-- up to the next number, from 0 and from 1
pub from_zero : (f : ℕ → List ℕ) (j : ℕ) → flat_map f (range_with_len 0 (j + 1)) ≡ flat_map f (range_with_len 0 j) ++ f j
from_zero f j = flat_more f 0 j j (omega arith)

pub from_one : (f : ℕ → List ℕ) (j : ℕ) → 1 ≤ j → flat_map f (range_with_len 1 ((j + 1) - 1)) ≡ flat_map f (range_with_len 1 (j - 1)) ++ f j
from_one f j one = ap (λ n. flat_map f (range_with_len 1 n)) (omega arith) ∙ flat_more f 1 (j - 1) j (omega arith)

-- a text that ends with the numbers before j, and one more behind it
pub more_from_zero : (o b a : List ℕ) (f : ℕ → List ℕ) (j : ℕ) → b ≡ o ++ flat_map f (range_with_len 0 j) → a ≡ b ++ f j → a ≡ o ++ flat_map f (range_with_len 0 (j + 1))
more_from_zero o b a f j before one =
    one ∙ ap (λ xs. xs ++ f j) before ∙ append_assoc o (flat_map f (range_with_len 0 j)) (f j) ∙ ap (λ xs. o ++ xs) (sym (from_zero f j))

pub more_from_one : (o b a : List ℕ) (f : ℕ → List ℕ) (j : ℕ) → 1 ≤ j → b ≡ o ++ flat_map f (range_with_len 1 (j - 1)) → a ≡ b ++ f j → a ≡ o ++ flat_map f (range_with_len 1 ((j + 1) - 1))
more_from_one o b a f j le before one =
    one ∙ ap (λ xs. xs ++ f j) before ∙ append_assoc o (flat_map f (range_with_len 1 (j - 1))) (f j) ∙ ap (λ xs. o ++ xs) (sym (from_one f j le))
