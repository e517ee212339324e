-- Terms, and the coefficients that they write.
use Rattle.std.proofs.Common.{◌≡◌, ℕ, zero, suc, ◌*◌, ◌<◌, ◌≤◌, Bool, true, false, not, ◌&&◌, ◌||◌, cond, nat_lt, List, [], ◌∷◌, ◌++◌, length, get_or, min, Option, Some, None, ℤ, pos, ◌+ℤ◌, ◌*ℤ◌, nat_abs, lit<, refl, sym, ap, ◌∙◌, arith}
use Rattle.std.proofs.Math.ListN.{set}
use Rattle.std.proofs.lemmas.Bool.{false≢true}
use Rattle.std.proofs.lemmas.Bool.Decides.{nat_tests}
use Rattle.std.proofs.Math.Nat.{zero-mul, mul-zero, mul-one, mul-le-mul}
use Rattle.affc_limits.proofs.WholeLaws.{capped_above}
use Rattle.std.proofs.lemmas.List.Folds.{list_any-append}
use Rattle.std.proofs.lemmas.Int.{ints, unsigned_abs-mul}
use Rattle.std.proofs.Math.IntN.{zero-*ℤ, *ℤ_comm}
use Rattle.affc_rows.proofs.IntLemmas.{add-mul, mul_assoc}
use Rattle.affc_lex.specs.Bytes.{same}
use Rattle.affc_lex.proofs.Lists.{same_is, same_refl}
use Rattle.affc_grammar.specs.Grammar.{Name}
use Rattle.affc_limits.specs.declared.terms.Term.{Term}
use Rattle.affc_limits.specs.Digits.{capped}
use Rattle.affc_limits.specs.Terms.{has, IsAt, are_apart, AreApart, at_name, coefficient, scaled, is_large, any_large, size_of, is_large_by, any_large_by}

and_not : (a b : Bool) → (not a && b) ≡ true → (a ≡ false) × (b ≡ true)
and_not true b e = absurd (false≢true e)
and_not false b e = (refl, e)

apart_parts : (x : Term) (xs : List Term) → AreApart (x ∷ xs) → (has x.name xs ≡ false) × AreApart xs
apart_parts x xs a = and_not (has x.name xs) (are_apart xs) a

apart_with : (x : Term) (xs : List Term) → has x.name xs ≡ false → AreApart xs → AreApart (x ∷ xs)
apart_with x xs e a = ap (λ b. not b && are_apart xs) e ∙ a

-- ---- Numbers at a name

at_name-add : (n : Name) (a b : ℤ) (w : Name) → at_name n (a +ℤ b) w ≡ at_name n a w +ℤ at_name n b w
at_name-add n a b w = by_test (same n w)
  where
    by_test : (t : Bool) → cond t (a +ℤ b) (pos 0) ≡ cond t a (pos 0) +ℤ cond t b (pos 0)
    by_test true = refl
    by_test false = refl

pub scaled-zero : (s : Option ℤ) → scaled s (pos 0) ≡ pos 0
scaled-zero None = refl
scaled-zero (Some s) = zero-*ℤ s

pub scaled-add : (s : Option ℤ) (a b : ℤ) → scaled s (a +ℤ b) ≡ scaled s a +ℤ scaled s b
scaled-add None a b = refl
scaled-add (Some s) a b = add-mul a b s

pub scaled-times : (s : Option ℤ) (a b : ℤ) → a *ℤ scaled s b ≡ scaled s a *ℤ b
scaled-times None a b = refl
scaled-times (Some s) a b = ap (λ z. a *ℤ z) (*ℤ_comm b s) ∙ sym (mul_assoc a s b)

at_name-scaled : (s : Option ℤ) (n : Name) (z : ℤ) (w : Name) → scaled s (at_name n z w) ≡ at_name n (scaled s z) w
at_name-scaled s n z w = by_test (same n w)
  where
    by_test : (t : Bool) → scaled s (cond t z (pos 0)) ≡ cond t (scaled s z) (pos 0)
    by_test true = refl
    by_test false = scaled-zero s

plus_assoc : (a b c : ℤ) → a +ℤ (b +ℤ c) ≡ (a +ℤ b) +ℤ c
plus_assoc a b c = omega (arith, ints)

plus_zero : (a : ℤ) → a +ℤ pos 0 ≡ pos 0 +ℤ a
plus_zero a = omega (arith, ints)

plus_none : (a : ℤ) → a +ℤ pos 0 ≡ a
plus_none a = omega (arith, ints)

none_plus : (a : ℤ) → pos 0 +ℤ a ≡ a
none_plus a = omega (arith, ints)

plus_inside : (a b c : ℤ) → (a +ℤ b) +ℤ c ≡ (a +ℤ c) +ℤ b
plus_inside a b c = omega (arith, ints)

-- ---- One term more, or another number in a term

pub coefficient-append : (w : Name) (ts : List Term) (t : Term) → coefficient w (ts ++ t ∷ []) ≡ coefficient w ts +ℤ at_name t.name t.number w
coefficient-append w [] t = plus_zero (at_name t.name t.number w)
coefficient-append w (x ∷ xs) t =
    ap (λ z. at_name x.name x.number w +ℤ z) (coefficient-append w xs t)
    ∙ plus_assoc (at_name x.name x.number w) (coefficient w xs) (at_name t.name t.number w)

pub coefficient-set : (w : Name) (ts : List Term) (i : ℕ) (d t : Term) (more : ℤ) → i < length ts → (get_or ts i d).name ≡ t.name → t.number ≡ (get_or ts i d).number +ℤ more
    → coefficient w (set ts i t) ≡ coefficient w ts +ℤ at_name t.name more w
coefficient-set w [] i d t more lt e f = absurd (omega arith)
coefficient-set w (x ∷ xs) zero d t more lt e f =
    ap (λ z. at_name t.name z w +ℤ coefficient w xs) f
    ∙ ap (λ z. z +ℤ coefficient w xs) (at_name-add t.name x.number more w ∙ ap (λ n. at_name n x.number w +ℤ at_name t.name more w) (sym e))
    ∙ plus_inside (at_name x.name x.number w) (at_name t.name more w) (coefficient w xs)
coefficient-set w (x ∷ xs) (suc i) d t more lt e f =
    ap (λ z. at_name x.name x.number w +ℤ z) (coefficient-set w xs i d t more (omega arith) e f)
    ∙ plus_assoc (at_name x.name x.number w) (coefficient w xs) (at_name t.name more w)

has-set : (w : Name) (ts : List Term) (i : ℕ) (d t : Term) → i < length ts → (get_or ts i d).name ≡ t.name → has w (set ts i t) ≡ has w ts
has-set w [] i d t lt e = absurd (omega arith)
has-set w (x ∷ xs) zero d t lt e = ap (λ n. same n w || has w xs) (sym e)
has-set w (x ∷ xs) (suc i) d t lt e = ap (λ b. same x.name w || b) (has-set w xs i d t (omega arith) e)

pub apart-set : (ts : List Term) (i : ℕ) (d t : Term) → i < length ts → (get_or ts i d).name ≡ t.name → AreApart ts → AreApart (set ts i t)
apart-set [] i d t lt e a = absurd (omega arith)
apart-set (x ∷ xs) zero d t lt e a = let p = apart_parts x xs a in apart_with t xs (ap (λ n. has n xs) (sym e) ∙ p.0) p.1
apart-set (x ∷ xs) (suc i) d t lt e a = let p = apart_parts x xs a in apart_with x (set xs i t) (has-set x.name xs i d t (omega arith) e ∙ p.0) (apart-set xs i d t (omega arith) e p.1)

or_parts : (a b : Bool) → (a || b) ≡ false → (a ≡ false) × (b ≡ false)
or_parts true b e = absurd (false≢true (sym e))
or_parts false b e = (refl, e)

other_way : (v w : Name) → same v w ≡ false → same w v ≡ false
other_way v w e = by_test (same w v) refl
  where
    by_test : (b : Bool) → same w v ≡ b → b ≡ false
    by_test false f = refl
    by_test true f = absurd (false≢true (sym e ∙ ap (λ n. same n w) (sym (same_is w v f)) ∙ same_refl w))

pub apart-append : (ts : List Term) (t : Term) → AreApart ts → has t.name ts ≡ false → AreApart (ts ++ t ∷ [])
apart-append [] t a e = refl
apart-append (x ∷ xs) t a e =
    let q = apart_parts x xs a in
    let p = or_parts (same x.name t.name) (has t.name xs) e in
    apart_with x (xs ++ t ∷ []) (list_any-append (λ y. same y.name x.name) xs (t ∷ []) ∙ (λ i. q.0 i || (other_way x.name t.name p.0 i || false))) (apart-append xs t q.1 p.1)

-- with so much more at a name that has a term
pub with_own : (w : Name) (ts new : List Term) (i : ℕ) (d t : Term) (number : ℤ) → IsAt t.name ts i → number ≡ t.number +ℤ (get_or ts i d).number → new ≡ set ts i (record { name = t.name; number = number }) → coefficient w new ≡ coefficient w ts +ℤ at_name t.name t.number w
with_own w ts new i d t number at f is = ap (coefficient w) is ∙ coefficient-set w ts i d (record { name = t.name; number = number }) t.number at.0 (at.1 d) (f ∙ in_turn t.number (get_or ts i d).number)
  where
    in_turn : (a b : ℤ) → a +ℤ b ≡ b +ℤ a
    in_turn a b = omega (arith, ints)

-- without terms, all numbers are 0
pub nothing_times : (w : Name) (s : Option ℤ) (ts : List Term) (by : ℤ) → ts ≡ [] → scaled s (coefficient w ts) ≡ scaled s (coefficient w ts) *ℤ by
nothing_times w s ts by e =
    let z : scaled s (coefficient w ts) ≡ pos 0 = ap (λ l. scaled s (coefficient w l)) e ∙ scaled-zero s in
    z ∙ sym (ap (λ y. y *ℤ by) z ∙ zero-*ℤ by)

-- ---- In the code's loops

-- one term fewer of the others
pub more_turn : (w : Name) (s : Option ℤ) (own : ℤ) (more rest : List Term) (t : Term) (number new total : ℤ) → more ≡ rest ++ t ∷ [] → number ≡ scaled s t.number → new ≡ own +ℤ at_name t.name number w
    → own +ℤ scaled s (coefficient w more) ≡ total
    → new +ℤ scaled s (coefficient w rest) ≡ total
more_turn w s own more rest t number new total is n made kept =
    (λ i. (made ∙ ap (λ z. own +ℤ at_name t.name z w) n) i +ℤ scaled s (coefficient w rest))
    ∙ plus_inside own (at_name t.name (scaled s t.number) w) (scaled s (coefficient w rest))
    ∙ sym (plus_assoc own (scaled s (coefficient w rest)) (at_name t.name (scaled s t.number) w))
    ∙ ap (λ z. own +ℤ z) (
    ap (λ z. scaled s (coefficient w rest) +ℤ z) (sym (at_name-scaled s t.name t.number w))
    ∙ sym (scaled-add s (coefficient w rest) (at_name t.name t.number w))
    ∙ ap (scaled s) (sym (ap (coefficient w) is ∙ coefficient-append w rest t))
    )
    ∙ kept

-- no term is left
pub none_left : (w : Name) (s : Option ℤ) (own : ℤ) (more : List Term) (total : ℤ) → more ≡ [] → own +ℤ scaled s (coefficient w more) ≡ total → own ≡ total
none_left w s own more total e kept = sym (plus_none own) ∙ ap (λ z. own +ℤ z) (sym (ap (λ l. scaled s (coefficient w l)) e ∙ scaled-zero s)) ∙ kept

-- Each of two lists has one term of a name at most, and no name is in both.
pub record AreParted (terms made : List Term) : Type 0 where
  pub terms_apart : AreApart terms
  pub made_apart : AreApart made
  pub parted : (w : Name) → has w terms ≡ true → has w made ≡ false

apart_last : (rest : List Term) (t : Term) → AreApart (rest ++ t ∷ []) → AreApart rest × (has t.name rest ≡ false)
apart_last [] t a = (refl, refl)
apart_last (x ∷ xs) t a =
    let p = apart_parts x (xs ++ t ∷ []) a in
    let h = or_parts (has x.name xs) (same t.name x.name || false) (sym (list_any-append (λ y. same y.name x.name) xs (t ∷ [])) ∙ p.0) in
    let later = apart_last xs t p.1 in (
      apart_with x xs h.0 later.0,
      (λ i. other_way t.name x.name (or_parts (same t.name x.name) false h.1).0 i || later.1 i),
    )

-- the last term of the one list behind those of the other
pub parted_turn : (terms rest made new : List Term) (t u : Term) → terms ≡ rest ++ t ∷ [] → u.name ≡ t.name → new ≡ made ++ u ∷ [] → AreParted terms made → AreParted rest new
parted_turn terms rest made new t u is n made_is p =
    let last = apart_last rest t (ap are_apart (sym is) ∙ p.terms_apart) in
    record {
      terms_apart = last.0;
      made_apart = ap are_apart made_is ∙ apart-append made u p.made_apart (ap (λ v. has v made) n ∙ p.parted t.name (ap (has t.name) is ∙ list_any-append (λ y. same y.name t.name) rest (t ∷ []) ∙ or_right (has t.name rest) (ap (λ b. b || false) (same_refl t.name))));
      parted = λ w h.
          ap (has w) made_is
          ∙ list_any-append (λ y. same y.name w) made (u ∷ [])
          ∙ (λ i. p.parted w (ap (has w) is ∙ list_any-append (λ y. same y.name w) rest (t ∷ []) ∙ ap (λ b. b || (same t.name w || false)) h) i || ((ap (λ v. same v w) n ∙ not_last w (same t.name w) refl h) i || false));
    }
  where
    or_right : (a : Bool) {b : Bool} → b ≡ true → (a || b) ≡ true
    or_right true e = refl
    or_right false e = e

    not_last : (w : Name) (b : Bool) → same t.name w ≡ b → has w rest ≡ true → b ≡ false
    not_last w false e h = refl
    not_last w true e h = absurd (false≢true (sym (apart_last rest t (ap are_apart (sym is) ∙ p.terms_apart)).1 ∙ ap (λ v. has v rest) (same_is t.name w e) ∙ h))

-- ---- Large coefficients

zero_is_not : (s : Option ℤ) → is_large s (pos 0) ≡ false
zero_is_not s = ap (λ z. nat_lt 65536 (nat_abs z)) (scaled-zero s)

absent : (w : Name) (ts : List Term) → has w ts ≡ false → coefficient w ts ≡ pos 0
absent w [] e = refl
absent w (x ∷ xs) e = let p = or_parts (same x.name w) (has w xs) e in λ i. cond (p.0 i) x.number (pos 0) +ℤ absent w xs p.1 i

own : (x : Term) (xs : List Term) → has x.name xs ≡ false → coefficient x.name (x ∷ xs) ≡ x.number
own x xs e = (λ i. cond (same_refl x.name i) x.number (pos 0) +ℤ absent x.name xs e i) ∙ plus_none x.number

others : (w : Name) (x : Term) (xs : List Term) → same x.name w ≡ false → coefficient w (x ∷ xs) ≡ coefficient w xs
others w x xs e = ap (λ b. cond b x.number (pos 0) +ℤ coefficient w xs) e ∙ none_plus (coefficient w xs)

-- a large term is the coefficient of its name
pub some_name : (s : Option ℤ) (ts : List Term) → AreApart ts → any_large s ts ≡ true → (w : Name) × (is_large s (coefficient w ts) ≡ true)
some_name s [] a e = absurd (false≢true e)
some_name s (x ∷ xs) a e = by_test (is_large s x.number) refl (some_name s xs (apart_parts x xs a).1) e
  where
    kept : (v : Name) → is_large s (coefficient v xs) ≡ true → (b : Bool) → same x.name v ≡ b → is_large s (coefficient v (x ∷ xs)) ≡ true
    kept v l false f = ap (is_large s) (others v x xs f) ∙ l
    kept v l true f = absurd (false≢true (sym (zero_is_not s) ∙ ap (is_large s) (sym (absent v xs (ap (λ n. has n xs) (sym (same_is x.name v f)) ∙ (apart_parts x xs a).0))) ∙ l))

    by_test : (b : Bool) → is_large s x.number ≡ b → (any_large s xs ≡ true → (w : Name) × (is_large s (coefficient w xs) ≡ true)) → (b || any_large s xs) ≡ true → (w : Name) × (is_large s (coefficient w (x ∷ xs)) ≡ true)
    by_test true is later f = (x.name, ap (is_large s) (own x xs (apart_parts x xs a).0) ∙ is)
    by_test false is later f = (let found = later f in (found.0, kept found.0 found.1 (same x.name found.0) refl))

pub some_term : (s : Option ℤ) (ts : List Term) (w : Name) → AreApart ts → is_large s (coefficient w ts) ≡ true → any_large s ts ≡ true
some_term s [] w a e = absurd (false≢true (sym (zero_is_not s) ∙ e))
some_term s (x ∷ xs) w a e = by_test (same x.name w) refl (some_term s xs w (apart_parts x xs a).1)
  where
    or_true : (b : Bool) → any_large s xs ≡ true → (b || any_large s xs) ≡ true
    or_true true f = refl
    or_true false f = f

    by_test : (b : Bool) → same x.name w ≡ b → (is_large s (coefficient w xs) ≡ true → any_large s xs ≡ true) → any_large s (x ∷ xs) ≡ true
    by_test true f later =
        let n : x.name ≡ w = same_is x.name w f in
        let l : is_large s x.number ≡ true = ap (is_large s) (sym (own x xs (apart_parts x xs a).0)) ∙ ap (λ v. is_large s (coefficient v (x ∷ xs))) n ∙ e in
        ap (λ b. b || any_large s xs) l
    by_test false f later = or_true (is_large s x.number) (later (ap (is_large s) (sym (others w x xs f)) ∙ e))

-- ---- Large numbers by cut-off ones

cut_size : (z : ℤ) → nat_abs (capped z) ≡ min (nat_abs z) 4294967296
cut_size z = grind (arith, ints)

cut_product : (a b : ℕ) → nat_lt 65536 (min a 4294967296 * min b 4294967296) ≡ nat_lt 65536 (a * b)
cut_product zero b = ap (nat_lt 65536) (zero-mul (min b 4294967296) ∙ sym (zero-mul b))
cut_product (suc a) zero = ap (nat_lt 65536) (mul-zero (min (suc a) 4294967296) ∙ sym (mul-zero (suc a)))
cut_product (suc a) (suc b) = by_size (nat_lt 4294967296 (suc a)) refl (nat_lt 4294967296 (suc b)) refl
  where
    small_min : (n : ℕ) → n ≤ 4294967296 → min n 4294967296 ≡ n
    small_min n h = omega arith

    large_min : (n : ℕ) → 4294967296 < n → min n 4294967296 ≡ 4294967296
    large_min n h = omega arith

    above : (n : ℕ) → 65536 < n → nat_lt 65536 n ≡ true
    above n h = grind (arith, nat_tests)

    wide : (m n : ℕ) → 0 < n → 4294967296 ≤ m → 65536 < m * n
    wide m n h k = let l : 4294967296 * 1 ≤ m * n = mul-le-mul k h in omega (arith, l)

    wide_right : (m n : ℕ) → 0 < m → 4294967296 ≤ n → 65536 < m * n
    wide_right m n h k = let l : 1 * 4294967296 ≤ m * n = mul-le-mul h k in omega (arith, l)

    is_below : (n : ℕ) → nat_lt 4294967296 n ≡ false → n ≤ 4294967296
    is_below n e = grind (arith, nat_tests)

    is_above : (n : ℕ) → nat_lt 4294967296 n ≡ true → 4294967296 < n
    is_above n e = grind (arith, nat_tests)

    some : (n : ℕ) → 0 < min (suc n) 4294967296
    some n = omega arith

    by_size : (s : Bool) → nat_lt 4294967296 (suc a) ≡ s → (t : Bool) → nat_lt 4294967296 (suc b) ≡ t → nat_lt 65536 (min (suc a) 4294967296 * min (suc b) 4294967296) ≡ nat_lt 65536 (suc a * suc b)
    by_size false e false f = λ i. nat_lt 65536 (small_min (suc a) (is_below (suc a) e) i * small_min (suc b) (is_below (suc b) f) i)
    by_size true e t f =
        above (min (suc a) 4294967296 * min (suc b) 4294967296) (wide (min (suc a) 4294967296) (min (suc b) 4294967296) (some b) (omega (arith, large_min (suc a) (is_above (suc a) e))))
        ∙ sym (above (suc a * suc b) (wide (suc a) (suc b) (omega arith) (omega (arith, is_above (suc a) e))))
    by_size false e true f =
        above (min (suc a) 4294967296 * min (suc b) 4294967296) (wide_right (min (suc a) 4294967296) (min (suc b) 4294967296) (some a) (omega (arith, large_min (suc b) (is_above (suc b) f))))
        ∙ sym (above (suc a * suc b) (wide_right (suc a) (suc b) (omega arith) (omega (arith, is_above (suc b) f))))

is-by : (s : Option ℤ) (z : ℤ) → is_large_by (size_of s) z ≡ is_large s z
is-by None z = ap (nat_lt 65536) (mul-one (nat_abs (capped z))) ∙ capped_above 65536 z (lit< tt)
is-by (Some s) z =
    (λ i. nat_lt 65536 (cut_size z i * cut_size s i))
    ∙ cut_product (nat_abs z) (nat_abs s)
    ∙ ap (nat_lt 65536) (sym (unsigned_abs-mul z s))

pub any-by : (s : Option ℤ) (ts : List Term) → any_large_by (size_of s) ts ≡ any_large s ts
any-by s [] = refl
any-by s (x ∷ xs) = λ i. is-by s x.number i || any-by s xs i
