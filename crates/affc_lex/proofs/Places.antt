-- The first place at which a test of what begins there passes.
use Rattle.std.proofs.Common.{◌≡◌, ℕ, suc, ◌+◌, ◌<◌, ◌≤◌, Bool, true, false, List, length, drop, Option, Some, None, refl, ap, ◌∙◌, arith}
use Rattle.std.specs.Option.{option_map}
use Rattle.std.proofs.lemmas.List.{drop_more, drop_all}
use Rattle.std.proofs.lemmas.Bool.{cond-true, cond-false}
use Rattle.affc_lex.specs.Reading.{first_place}

-- a place counted from further ahead
abbrev pub ahead : ℕ → Option ℕ → Option ℕ
ahead n o = option_map (λ k. n + k) o

pub ahead_none : (o : Option ℕ) → o ≡ ahead 0 o
ahead_none None = refl
ahead_none (Some k) = ap Some (omega arith)

pub ahead_more : (n : ℕ) (o : Option ℕ) → ahead n (option_map suc o) ≡ ahead (n + 1) o
ahead_more n None = refl
ahead_more n (Some k) = ap Some (omega arith)

pub place_here : (test : List ℕ → Bool) (xs : List ℕ) (i : ℕ) → i < length xs → first_place test xs ≡ ahead i (first_place test (drop i xs)) → test (drop i xs) ≡ true → first_place test xs ≡ Some i
place_here test xs i within so_far here =
    let split = drop_more xs i 0 within in
    let found : first_place test (drop i xs) ≡ Some 0 = rw split (cond-true _ _ _ (rw split at here)) in
    so_far ∙ ap (ahead i) found ∙ ap Some (omega arith)

pub place_further : (test : List ℕ → Bool) (xs : List ℕ) (i : ℕ) → i < length xs → first_place test xs ≡ ahead i (first_place test (drop i xs)) → test (drop i xs) ≡ false → first_place test xs ≡ ahead (i + 1) (first_place test (drop (i + 1) xs))
place_further test xs i within so_far here =
    let split = drop_more xs i 0 within in
    let found : first_place test (drop i xs) ≡ option_map suc (first_place test (drop (i + 1) xs)) = rw split (cond-false _ _ _ (rw split at here)) in
    so_far ∙ ap (ahead i) found ∙ ahead_more i _

pub place_nowhere : (test : List ℕ → Bool) (xs : List ℕ) (i : ℕ) → length xs ≤ i → first_place test xs ≡ ahead i (first_place test (drop i xs)) → first_place test xs ≡ None
place_nowhere test xs i past so_far = so_far ∙ ap (λ ys. ahead i (first_place test ys)) (drop_all i xs past)

pub place_start : (test : List ℕ → Bool) (xs : List ℕ) → first_place test xs ≡ ahead 0 (first_place test (drop 0 xs))
place_start test xs = ahead_none (first_place test xs)

pub ruleset places = (place_start, place_here, place_further, place_nowhere)
