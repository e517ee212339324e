-- The first of a list, and the others as a pattern takes them.
use Rattle.std.proofs.Common.{◌≡◌, ℕ, suc, ◌+◌, ◌-◌, ◌<◌, ◌≤◌, List, [], ◌∷◌, length, take, drop, get_or, refl, sym, ap, ◌∙◌, arith, drop-cons}
use Rattle.std.specs.Prelude.{sum_by}
use Rattle.std.proofs.lemmas.List.{take_all}
use Rattle.std.proofs.lemmas.List.Sums.{sum_by-cons}

pub first_and_rest : {X : Type 0} (xs : List X) (x y : X) → 1 ≤ length xs → x ≡ get_or xs 0 x → x ≡ y → xs ≡ y ∷ take (length xs - 1) (drop 1 xs)
first_and_rest [] x y h e f = absurd (omega arith)
first_and_rest (z ∷ zs) x y h e f = ap (λ w. w ∷ zs) (sym e ∙ f) ∙ ap (λ ws. y ∷ ws) (sym (take_all (length (z ∷ zs) - 1) zs (omega arith)))

pub first_sum : {X : Type 0} (f : X → ℕ) (xs : List X) (x : X) → 1 ≤ length xs → x ≡ get_or xs 0 x → sum_by f xs ≡ f x + sum_by f (take (length xs - 1) (drop 1 xs))
first_sum f xs x h e = ap (sum_by f) (first_and_rest xs x x h e refl) ∙ sum_by-cons f x (take (length xs - 1) (drop 1 xs))

-- the item that a loop has come to, and those after it
pub drop_next : {X : Type 0} (xs : List X) (i : ℕ) (x : X) → i < length xs → x ≡ get_or xs i x → drop i xs ≡ x ∷ drop (i + 1) xs
drop_next xs i x h e =
    let next : suc i ≡ i + 1 = omega arith in
    drop-cons xs i x h ∙ (λ k. sym e k ∷ drop (next k) xs)

pub next_sum : {X : Type 0} (f : X → ℕ) (xs : List X) (i : ℕ) (x : X) → i < length xs → x ≡ get_or xs i x → sum_by f (drop i xs) ≡ f x + sum_by f (drop (i + 1) xs)
next_sum f xs i x h e = ap (sum_by f) (drop_next xs i x h e) ∙ sum_by-cons f x (drop (i + 1) xs)
