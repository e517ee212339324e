-- Runs of bytes that pass a test, and texts that begin with another.
use Rattle.std.proofs.Common.{◌≡◌, ℕ, suc, ◌+◌, ◌≤◌, Bool, true, ◌&&◌, ◌==◌, List, [], ◌∷◌, length, take, refl, ap, subst, arith, nat_eq}
use Rattle.std.specs.List.{list_all, prefix_len, starts_with}
use Rattle.std.proofs.lemmas.Bool.{and_from, cond_both}
use Rattle.std.proofs.lemmas.List.Sums.{prefix_len-le-length}
use Rattle.affc_lex.specs.Bytes.{begins}

pub begins_is : (p xs : List ℕ) → starts_with nat_eq xs p ≡ begins p xs
begins_is [] xs = refl
begins_is (x ∷ p) [] = refl
begins_is (x ∷ p) (y ∷ xs) = ap (λ b. x == y && b) (begins_is p xs)

-- each byte of the run passes
pub run_passes : (test : ℕ → Bool) (xs : List ℕ) → list_all test (take (prefix_len test xs) xs) ≡ true
run_passes test [] = refl
run_passes test (x ∷ xs) =
    let more : suc (prefix_len test xs) ≡ 1 + prefix_len test xs = omega arith in
    cond_both (test x) (1 + prefix_len test xs) 0 (λ n. list_all test (take n (x ∷ xs)) ≡ true)
    (λ passes. subst (λ n. list_all test (take n (x ∷ xs)) ≡ true) more (and_from _ _ passes (run_passes test xs))) (λ _. refl)

pub run_within : (test : ℕ → Bool) (xs : List ℕ) → prefix_len test xs ≤ length xs
run_within test xs = prefix_len-le-length test xs

pub ruleset runs = (begins_is, run_passes, run_within)
