-- Texts cut in two, runs of bytes that pass a test, and the first place of a text in another.
use Rattle.std.proofs.Common.{◌≡◌, ℕ, zero, suc, ◌+◌, ◌≤◌, Bool, true, false, not, ◌&&◌, ◌||◌, ◌==◌, List, [], ◌∷◌, ◌++◌, length, take, drop, Option, Some, None, refl, sym, ap, ◌∙◌, subst, arith}
use Rattle.std.specs.List.{list_all, prefix_len}
use Rattle.std.specs.Option.{option_map, is_some}
use Rattle.std.proofs.lemmas.List.{take_at}
use Rattle.std.proofs.lemmas.Bool.{and_parts, and_from, cond_both, cond-true, cond-false, eqb-true, eq-eqb, false≢true, not-true, not_from_false, false_from_ne_true}
use Rattle.affc_lex.specs.Bytes.{begins, next_is, same, contains, ends_at_first}
use Rattle.affc_lex.specs.Reading.{first_place}

-- a test with the case that it is in
pub by_test : {A : Type 0} (b : Bool) → (b ≡ true → A) → (b ≡ false → A) → A
by_test true yes_case no_case = yes_case refl
by_test false yes_case no_case = no_case refl

-- Texts that are the same

pub same_is : (xs ys : List ℕ) → same xs ys ≡ true → xs ≡ ys
same_is [] [] e = refl
same_is [] (y ∷ ys) e = absurd (false≢true e)
same_is (x ∷ xs) [] e = absurd (false≢true e)
same_is (x ∷ xs) (y ∷ ys) e =
    let parts = and_parts (x == y) (same xs ys) e in
    ap (λ z. z ∷ xs) (eqb-true x y parts.0) ∙ ap (λ zs. y ∷ zs) (same_is xs ys parts.1)

pub same_refl : (xs : List ℕ) → same xs xs ≡ true
same_refl [] = refl
same_refl (x ∷ xs) = and_from (x == x) (same xs xs) (eq-eqb x x refl) (same_refl xs)

-- Texts that begin with another

pub begins_append : (p after : List ℕ) → begins p (p ++ after) ≡ true
begins_append [] after = refl
begins_append (x ∷ p) after = and_from (x == x) (begins p (p ++ after)) (eq-eqb x x refl) (begins_append p after)

pub begins_splits : (p xs : List ℕ) → begins p xs ≡ true → xs ≡ p ++ drop (length p) xs
begins_splits [] xs e = refl
begins_splits (x ∷ p) [] e = absurd (false≢true e)
begins_splits (x ∷ p) (y ∷ xs) e =
    let parts = and_parts (x == y) (begins p xs) e in
    ap (λ z. z ∷ xs) (sym (eqb-true x y parts.0)) ∙ ap (λ zs. x ∷ zs) (begins_splits p xs parts.1)

pub begins_take : (p xs : List ℕ) → begins p xs ≡ true → take (length p) xs ≡ p
begins_take p xs e = ap (λ zs. take (length p) zs) (begins_splits p xs e) ∙ take_at p (drop (length p) xs) (length p) refl

pub begins_within : (p xs : List ℕ) → begins p xs ≡ true → length p ≤ length xs
begins_within [] xs e = omega arith
begins_within (x ∷ p) [] e = absurd (false≢true e)
begins_within (x ∷ p) (y ∷ xs) e = omega (arith, begins_within p xs (and_parts (x == y) (begins p xs) e).1)

-- what begins a longer text, and is no longer than the shorter one, begins that
pub begins_front : (p xs after : List ℕ) → length p ≤ length xs → begins p (xs ++ after) ≡ begins p xs
begins_front [] xs after short = refl
begins_front (x ∷ p) [] after short = absurd (omega arith)
begins_front (x ∷ p) (y ∷ xs) after short = ap (λ b. (x == y) && b) (begins_front p xs after (omega arith))

pub begins_longer : (p xs : List ℕ) (n : ℕ) → begins p (take n xs) ≡ true → begins p xs ≡ true
begins_longer [] xs n e = refl
begins_longer (x ∷ p) [] zero e = absurd (false≢true e)
begins_longer (x ∷ p) [] (suc n) e = absurd (false≢true e)
begins_longer (x ∷ p) (y ∷ xs) zero e = absurd (false≢true e)
begins_longer (x ∷ p) (y ∷ xs) (suc n) e =
    let parts = and_parts (x == y) (begins p (take n xs)) e in
    and_from (x == y) (begins p xs) parts.0 (begins_longer p xs n parts.1)

-- Runs

pub run_at : (test : ℕ → Bool) (xs after : List ℕ) → list_all test xs ≡ true → not (next_is test after) ≡ true → prefix_len test (xs ++ after) ≡ length xs
run_at test [] [] passes stops = refl
run_at test [] (b ∷ bs) passes stops = cond-false _ _ _ (not-true (test b) stops)
run_at test (x ∷ xs) after passes stops =
    let parts = and_parts (test x) (list_all test xs) passes in
    let further : prefix_len test (xs ++ after) ≡ length xs = run_at test xs after parts.1 stops in
    cond-true _ _ _ parts.0 ∙ omega arith

pub run_least : (test : ℕ → Bool) (xs after : List ℕ) → list_all test xs ≡ true → length xs ≤ prefix_len test (xs ++ after)
run_least test [] after passes = omega arith
run_least test (x ∷ xs) after passes =
    let parts = and_parts (test x) (list_all test xs) passes in
    let further : length xs ≤ prefix_len test (xs ++ after) = run_least test xs after parts.1 in
    let here : prefix_len test (x ∷ (xs ++ after)) ≡ 1 + prefix_len test (xs ++ after) = cond-true _ _ _ parts.0 in
    omega arith

pub run_stops : (test : ℕ → Bool) (xs : List ℕ) → not (next_is test (drop (prefix_len test xs) xs)) ≡ true
run_stops test [] = refl
run_stops test (x ∷ xs) =
    let more : suc (prefix_len test xs) ≡ 1 + prefix_len test xs = omega arith in
    cond_both (test x) (1 + prefix_len test xs) 0 (λ n. not (next_is test (drop n (x ∷ xs))) ≡ true)
    (λ passes. subst (λ n. not (next_is test (drop n (x ∷ xs))) ≡ true) more (run_stops test xs)) (λ fails. not_from_false (test x) fails)

pub all_weaker : (p q : ℕ → Bool) (xs : List ℕ) → ((b : ℕ) → p b ≡ true → q b ≡ true) → list_all p xs ≡ true → list_all q xs ≡ true
all_weaker p q [] weaker e = refl
all_weaker p q (x ∷ xs) weaker e =
    let parts = and_parts (p x) (list_all p xs) e in
    and_from (q x) (list_all q xs) (weaker x parts.0) (all_weaker p q xs weaker parts.1)

-- First places

abbrev predecessor : Option ℕ → ℕ
predecessor None = 0
predecessor (Some n) = n

some_same : (m n : ℕ) → ◌≡◌ {A = Option ℕ} (Some m) (Some n) → m ≡ n
some_same m n e = ap predecessor e

-- what a place one further on tells of the rest
pub later_place : (o : Option ℕ) (n : ℕ) → option_map suc o ≡ Some n → (m : ℕ) × (o ≡ Some m) × (n ≡ suc m)
later_place None n e = cc
later_place (Some m) n e = (m, refl, sym (some_same (suc m) n e))

pub ends_at_self : (x : ℕ) (p : List ℕ) → ends_at_first (x ∷ p) (x ∷ p) ≡ true
ends_at_self x p =
    let here : begins (x ∷ p) (x ∷ p) ≡ true = and_from (x == x) (begins p p) (eq-eqb x x refl) (begins_self p) in
    cond-true _ _ _ here ∙ same_refl (x ∷ p)
  where
    begins_self : (q : List ℕ) → begins q q ≡ true
    begins_self [] = refl
    begins_self (y ∷ q) = and_from (y == y) (begins q q) (eq-eqb y y refl) (begins_self q)

pub place_ends : (x : ℕ) (p xs : List ℕ) (n : ℕ) → first_place (begins (x ∷ p)) xs ≡ Some n → (ends_at_first (x ∷ p) (take (n + length (x ∷ p)) xs) ≡ true) × (n + length (x ∷ p) ≤ length xs)
place_ends x p [] n e = cc
place_ends x p (b ∷ bs) n e =
    by_test (begins (x ∷ p) (b ∷ bs))
    (λ here.
    let first : n ≡ 0 = sym (some_same 0 n (sym (cond-true _ _ _ here) ∙ e)) in
    let length_is : length (x ∷ p) ≡ n + length (x ∷ p) = omega arith in
    let front : take (n + length (x ∷ p)) (b ∷ bs) ≡ x ∷ p = ap (λ k. take k (b ∷ bs)) (sym length_is) ∙ begins_take (x ∷ p) (b ∷ bs) here in
    (ap (ends_at_first (x ∷ p)) front ∙ ends_at_self x p, omega (arith, begins_within (x ∷ p) (b ∷ bs) here)))
    (λ elsewhere.
    let further = later_place (first_place (begins (x ∷ p)) bs) n (sym (cond-false _ _ _ elsewhere) ∙ e) in
    let rest = place_ends x p bs further.0 further.1 in
    let length_is : suc (further.0 + length (x ∷ p)) ≡ n + length (x ∷ p) = omega (arith, further.2) in
    let not_here : begins (x ∷ p) (b ∷ take (further.0 + length (x ∷ p)) bs) ≡ false =
    false_from_ne_true _ (λ here. false≢true (sym elsewhere ∙ begins_longer (x ∷ p) (b ∷ bs) (suc (further.0 + length (x ∷ p))) here)) in
    (ap (λ k. ends_at_first (x ∷ p) (take k (b ∷ bs))) (sym length_is) ∙ cond-false _ _ _ not_here ∙ rest.0, omega (arith, rest.1, further.2)))

pub ends_placed : (p xs after : List ℕ) → ends_at_first p xs ≡ true → (n : ℕ) × (first_place (begins p) (xs ++ after) ≡ Some n) × (length xs ≡ n + length p)
ends_placed p [] after e = absurd (false≢true e)
ends_placed p (b ∷ bs) after e =
    by_test (begins p (b ∷ bs))
    (λ here.
    let whole : p ≡ b ∷ bs = same_is p (b ∷ bs) (sym (cond-true _ _ _ here) ∙ e) in
    let found : begins p (b ∷ (bs ++ after)) ≡ true = ap (begins p) (ap (λ q. q ++ after) (sym whole)) ∙ begins_append p after in
    (0, cond-true _ _ _ found, omega (arith, ap length whole)))
    (λ elsewhere.
    let rest = ends_placed p bs after (sym (cond-false _ _ _ elsewhere) ∙ e) in
    let not_here : begins p (b ∷ (bs ++ after)) ≡ false = begins_front p (b ∷ bs) after (omega (arith, rest.2)) ∙ elsewhere in
    (suc rest.0, cond-false _ _ _ not_here ∙ ap (option_map suc) rest.1, omega (arith, rest.2)))

pub contains_is : (p xs : List ℕ) → contains p xs ≡ is_some (first_place (begins p) xs)
contains_is p [] = refl
contains_is p (b ∷ bs) =
    by_test (begins p (b ∷ bs))
    (λ here. ap (λ t. t || contains p bs) here ∙ sym (ap is_some (cond-true _ _ _ here)))
    (λ elsewhere. ap (λ t. t || contains p bs) elsewhere ∙ contains_is p bs ∙ mapped (first_place (begins p) bs) ∙ sym (ap is_some (cond-false _ _ _ elsewhere)))
  where
    mapped : (o : Option ℕ) → is_some o ≡ is_some (option_map suc o)
    mapped None = refl
    mapped (Some n) = refl
