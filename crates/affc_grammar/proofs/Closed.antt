-- What any reader by the first token obeys: what is left is an end of what was given, and nothing past the first token that is left was looked at.
use Rattle.std.proofs.Common.{◌≡◌, ℕ, zero, suc, ◌+◌, ◌≤◌, List, [], ◌∷◌, ◌++◌, length, Option, Some, None, Ok, Err, refl, sym, ap, ◌∙◌, ◌⊎◌, inl, inr, arith, append_assoc, length-append}
use Rattle.affc_grammar.specs.Reader.{At, Deep, Read, Reader, then_read, on_some, Turn, going, done, give, fail, deep, after, either, many, all, tries, until, and_on, finished, IsReader}

pub then_ok : {T A B : Type 0} (r : Read T A) (f : A → Reader T B) (y : B × List T) → then_read r f ≡ Ok y → (a : A) × (us : List T) × (r ≡ Ok (a, us)) × (f a us ≡ Ok y)
then_ok (Ok x) f y e = (x.0, x.1, refl, e)
then_ok (Err (At ts)) f y e = absurd (cc)
then_ok (Err Deep) f y e = absurd (cc)

pub then_at : {T A B : Type 0} (r : Read T A) (f : A → Reader T B) (rest : List T) → then_read r f ≡ Err (At rest) → (r ≡ Err (At rest)) ⊎ ((a : A) × (us : List T) × (r ≡ Ok (a, us)) × (f a us ≡ Err (At rest)))
then_at (Ok x) f rest e = inr (x.0, x.1, refl, e)
then_at {T} {A} {B} (Err (At ts)) f rest e =
    let same : ts ≡ rest = at_inj ts rest e in
    inl (λ i. Err (At (same i)))
  where
    at_inj : (xs ys : List T) → ◌≡◌ {A = Read T B} (Err (At xs)) (Err (At ys)) → xs ≡ ys
    at_inj xs ys e = cc
then_at (Err Deep) f rest e = absurd (cc)

pub then_same : {T A B : Type 0} (r : Read T A) (f g : A → Reader T B) → ((a : A) (us : List T) → r ≡ Ok (a, us) → f a us ≡ g a us) → then_read r f ≡ then_read r g
then_same (Ok x) f g h = h x.0 x.1 refl
then_same (Err (At ts)) f g h = refl
then_same (Err Deep) f g h = refl

pub same_at : {T A : Type 0} (xs ys : List T) → ◌≡◌ {A = Read T A} (Err (At xs)) (Err (At ys)) → xs ≡ ys
same_at xs ys e = cc

pub same_ok : {T A : Type 0} (b : A) (ts : List T) (a : A) (rest : List T) → ◌≡◌ {A = Read T A} (Ok (b, ts)) (Ok (a, rest)) → (b ≡ a) × (ts ≡ rest)
same_ok {T} {A} b ts a rest e =
    let pair : ◌≡◌ {A = A × List T} (b, ts) (a, rest) = cc in
    (ap (λ p. p.0) pair, ap (λ p. p.1) pair)

-- no list is longer than itself
too_long : {T : Type 0} (t : T) (ys used w : List T) → ys ≡ used ++ (w ++ t ∷ ys) → ⊥
too_long t ys used w e = omega (arith, ap length e, length-append used (w ++ t ∷ ys), length-append w (t ∷ ys))

empty_front : {T : Type 0} (w ys : List T) → ys ≡ w ++ ys → w ≡ []
empty_front [] ys e = refl
empty_front (x ∷ w) ys e = absurd (omega (arith, ap length e, length-append w ys))

-- fronts of one list before the same rest are equal
pub same_front : {T : Type 0} (xs w ys : List T) → xs ++ ys ≡ w ++ ys → xs ≡ w
same_front [] w ys e = sym (empty_front w ys e)
same_front (x ∷ xs) [] ys e = empty_front (x ∷ xs) ys (sym e)
same_front (x ∷ xs) (y ∷ w) ys e =
    let tails : xs ++ ys ≡ w ++ ys = cc in
    let rest : xs ≡ w = same_front xs w ys tails in
    cc

pub is_fail : {T A : Type 0} → IsReader {T = T} {A = A} fail
unfolding fail
is_fail {T} {A} = record {
  ok_left = λ ts a rest e. absurd (cc);
  at_left = λ ts rest e. ([], same_at {T = T} {A = A} ts rest e);
  ok_same = λ xs t ys zs w a e. absurd (cc);
  at_same = λ xs t ys zs w e. ap (λ l. Err (At (l ++ t ∷ zs))) (same_front xs w (t ∷ ys) (same_at {T = T} {A = A} (xs ++ t ∷ ys) (w ++ t ∷ ys) e));
}

pub is_deep : {T A : Type 0} → IsReader {T = T} {A = A} deep
unfolding deep
is_deep = record {
  ok_left = λ ts a rest e. absurd (cc);
  at_left = λ ts rest e. absurd (cc);
  ok_same = λ xs t ys zs w a e. absurd (cc);
  at_same = λ xs t ys zs w e. absurd (cc);
}

pub is_give : {T A : Type 0} (b : A) → IsReader {T = T} {A = A} (give b)
unfolding give
is_give b = record {
  ok_left = λ ts a rest e. ([], (same_ok b ts a rest e).1);
  at_left = λ ts rest e. absurd (cc);
  ok_same = λ xs t ys zs w a e.
      let same = same_ok b (xs ++ t ∷ ys) a (w ++ t ∷ ys) e in
      (λ i. Ok (same.0 i, same_front xs w (t ∷ ys) same.1 i ++ t ∷ zs));
  at_same = λ xs t ys zs w e. absurd (cc);
}

joined : {T : Type 0} (ts used us v rest : List T) → ts ≡ used ++ us → us ≡ v ++ rest → ts ≡ (used ++ v) ++ rest
joined ts used us v rest p q = p ∙ ap (λ l. used ++ l) q ∙ sym (append_assoc used v rest)

-- one reader, and then another
pub is_after : {T A B : Type 0} {p : Reader T A} {f : A → Reader T B} → IsReader p → ((a : A) → IsReader (f a)) → IsReader (after p f)
unfolding after
is_after {T} {A} {B} {p} {f} r s = record {
  ok_left = λ ts a rest e.
      let k = then_ok (p ts) f (a, rest) e in
      let m = r.ok_left ts k.0 k.1 k.2 in
      let n = (s k.0).ok_left k.1 a rest k.3 in
      (m.0 ++ n.0, joined ts m.0 k.1 n.0 rest m.1 n.1);
  at_left = λ ts rest e. at_left_then ts rest (then_at (p ts) f rest e);
  ok_same = λ xs t ys zs w a e.
      let k = then_ok (p (xs ++ t ∷ ys)) f (a, w ++ t ∷ ys) e in
      let n = (s k.0).ok_left k.1 a (w ++ t ∷ ys) k.3 in
      let split : k.1 ≡ (n.0 ++ w) ++ t ∷ ys = n.1 ∙ sym (append_assoc n.0 w (t ∷ ys)) in
      let first = r.ok_same xs t ys zs (n.0 ++ w) k.0 (k.2 ∙ ap (λ l. Ok (k.0, l)) split) in
      let second = (s k.0).ok_same (n.0 ++ w) t ys zs w a (ap (f k.0) (sym split) ∙ k.3) in
      ap (λ r. then_read r f) first ∙ second;
  at_same = λ xs t ys zs w e. at_same_then xs t ys zs w (then_at (p (xs ++ t ∷ ys)) f (w ++ t ∷ ys) e);
}
  where
    at_left_then : (ts rest : List T) → (p ts ≡ Err (At rest)) ⊎ ((a : A) × (us : List T) × (p ts ≡ Ok (a, us)) × (f a us ≡ Err (At rest))) → (used : List T) × (ts ≡ used ++ rest)
    at_left_then ts rest (inl e) = r.at_left ts rest e
    at_left_then ts rest (inr k) =
        let m = r.ok_left ts k.0 k.1 k.2 in
        let n = (s k.0).at_left k.1 rest k.3 in
        (m.0 ++ n.0, joined ts m.0 k.1 n.0 rest m.1 n.1)

    at_same_then : (xs : List T) (t : T) (ys zs w : List T) → (p (xs ++ t ∷ ys) ≡ Err (At (w ++ t ∷ ys))) ⊎ ((a : A) × (us : List T) × (p (xs ++ t ∷ ys) ≡ Ok (a, us)) × (f a us ≡ Err (At (w ++ t ∷ ys)))) → then_read (p (xs ++ t ∷ zs)) f ≡ Err (At (w ++ t ∷ zs))
    at_same_then xs t ys zs w (inl e) = ap (λ r. then_read r f) (r.at_same xs t ys zs w e)
    at_same_then xs t ys zs w (inr k) =
        let n = (s k.0).at_left k.1 (w ++ t ∷ ys) k.3 in
        let split : k.1 ≡ (n.0 ++ w) ++ t ∷ ys = n.1 ∙ sym (append_assoc n.0 w (t ∷ ys)) in
        let first = r.ok_same xs t ys zs (n.0 ++ w) k.0 (k.2 ∙ ap (λ l. Ok (k.0, l)) split) in
        let second = (s k.0).at_same (n.0 ++ w) t ys zs w (ap (f k.0) (sym split) ∙ k.3) in
        ap (λ r. then_read r f) first ∙ second

-- ---- By the first token

module _ {T A K : Type 0} (test : T → Option K) (past : K → Reader T A) (other : Reader T A) (r : (x : T) (k : K) → test x ≡ Some k → IsReader (past k)) (s : IsReader other) where
  ok_left_at : (o : Option K) (x : T) → test x ≡ o → (ts : List T) (a : A) (rest : List T) → on_some o (λ k. past k ts) (other (x ∷ ts)) ≡ Ok (a, rest) → (used : List T) × (x ∷ ts ≡ used ++ rest)
  ok_left_at None x q ts a rest e = s.ok_left (x ∷ ts) a rest e
  ok_left_at (Some v) x q ts a rest e = let k = (r x v q).ok_left ts a rest e in (x ∷ k.0, ap (λ l. x ∷ l) k.1)

  at_left_at : (o : Option K) (x : T) → test x ≡ o → (ts rest : List T) → on_some o (λ k. past k ts) (other (x ∷ ts)) ≡ Err (At rest) → (used : List T) × (x ∷ ts ≡ used ++ rest)
  at_left_at None x q ts rest e = s.at_left (x ∷ ts) rest e
  at_left_at (Some v) x q ts rest e = let k = (r x v q).at_left ts rest e in (x ∷ k.0, ap (λ l. x ∷ l) k.1)

  -- where the token that is left is the first, it was not passed
  ok_here : (o : Option K) (t : T) → test t ≡ o → (ys zs w : List T) (a : A) → on_some o (λ k. past k ys) (other (t ∷ ys)) ≡ Ok (a, w ++ t ∷ ys) → on_some o (λ k. past k zs) (other (t ∷ zs)) ≡ Ok (a, w ++ t ∷ zs)
  ok_here None t q ys zs w a e = s.ok_same [] t ys zs w a e
  ok_here (Some v) t q ys zs w a e = let k = (r t v q).ok_left ys a (w ++ t ∷ ys) e in absurd (too_long t ys k.0 w k.1)

  at_here : (o : Option K) (t : T) → test t ≡ o → (ys zs w : List T) → on_some o (λ k. past k ys) (other (t ∷ ys)) ≡ Err (At (w ++ t ∷ ys)) → on_some o (λ k. past k zs) (other (t ∷ zs)) ≡ Err (At (w ++ t ∷ zs))
  at_here None t q ys zs w e = s.at_same [] t ys zs w e
  at_here (Some v) t q ys zs w e = let k = (r t v q).at_left ys (w ++ t ∷ ys) e in absurd (too_long t ys k.0 w k.1)

  ok_later : (o : Option K) (x : T) → test x ≡ o → (xs : List T) (t : T) (ys zs w : List T) (a : A) → on_some o (λ k. past k (xs ++ t ∷ ys)) (other (x ∷ (xs ++ t ∷ ys))) ≡ Ok (a, w ++ t ∷ ys) → on_some o (λ k. past k (xs ++ t ∷ zs)) (other (x ∷ (xs ++ t ∷ zs))) ≡ Ok (a, w ++ t ∷ zs)
  ok_later None x q xs t ys zs w a e = s.ok_same (x ∷ xs) t ys zs w a e
  ok_later (Some v) x q xs t ys zs w a e = (r x v q).ok_same xs t ys zs w a e

  at_later : (o : Option K) (x : T) → test x ≡ o → (xs : List T) (t : T) (ys zs w : List T) → on_some o (λ k. past k (xs ++ t ∷ ys)) (other (x ∷ (xs ++ t ∷ ys))) ≡ Err (At (w ++ t ∷ ys)) → on_some o (λ k. past k (xs ++ t ∷ zs)) (other (x ∷ (xs ++ t ∷ zs))) ≡ Err (At (w ++ t ∷ zs))
  at_later None x q xs t ys zs w e = s.at_same (x ∷ xs) t ys zs w e
  at_later (Some v) x q xs t ys zs w e = (r x v q).at_same xs t ys zs w e

  either_ok_left : (ts : List T) (a : A) (rest : List T) → either test past other ts ≡ Ok (a, rest) → (used : List T) × (ts ≡ used ++ rest)
  unfolding either
  either_ok_left [] a rest e = s.ok_left [] a rest e
  either_ok_left (x ∷ ts) a rest e = ok_left_at (test x) x refl ts a rest e

  either_at_left : (ts rest : List T) → either test past other ts ≡ Err (At rest) → (used : List T) × (ts ≡ used ++ rest)
  unfolding either
  either_at_left [] rest e = s.at_left [] rest e
  either_at_left (x ∷ ts) rest e = at_left_at (test x) x refl ts rest e

  either_ok_same : (xs : List T) (t : T) (ys zs w : List T) (a : A) → either test past other (xs ++ t ∷ ys) ≡ Ok (a, w ++ t ∷ ys) → either test past other (xs ++ t ∷ zs) ≡ Ok (a, w ++ t ∷ zs)
  unfolding either
  either_ok_same [] t ys zs w a e = ok_here (test t) t refl ys zs w a e
  either_ok_same (x ∷ xs) t ys zs w a e = ok_later (test x) x refl xs t ys zs w a e

  either_at_same : (xs : List T) (t : T) (ys zs w : List T) → either test past other (xs ++ t ∷ ys) ≡ Err (At (w ++ t ∷ ys)) → either test past other (xs ++ t ∷ zs) ≡ Err (At (w ++ t ∷ zs))
  unfolding either
  either_at_same [] t ys zs w e = at_here (test t) t refl ys zs w e
  either_at_same (x ∷ xs) t ys zs w e = at_later (test x) x refl xs t ys zs w e

  either_is : IsReader (either test past other)
  either_is = record { ok_left = either_ok_left; at_left = either_at_left; ok_same = either_ok_same; at_same = either_at_same }

pub is_either : {T A K : Type 0} {test : T → Option K} {past : K → Reader T A} {other : Reader T A} → ((x : T) (k : K) → test x ≡ Some k → IsReader (past k)) → IsReader other → IsReader (either test past other)
is_either {T} {A} {K} {test} {past} {other} r s = either_is test past other r s

-- ---- Again and again

module _ {T A K : Type 0} (test : T → Option K) (next : K → A → Reader T A) (r : (x : T) (k : K) → test x ≡ Some k → (left : A) → IsReader (next k left)) where
  is_many : (n : ℕ) (left : A) → IsReader (many test next n left)
  unfolding many
  is_many zero left = is_give left
  is_many (suc n) left = is_either (λ x k q. is_after (r x k q left) (is_many n)) (is_give left)

  fewer : (x : T) (k : K) → test x ≡ Some k → (left : A) (ts : List T) (a : A) (us : List T) → next k left ts ≡ Ok (a, us) → length us ≤ length ts
  fewer x k q left ts a us e = let m = (r x k q left).ok_left ts a us e in omega (arith, ap length m.1, length-append m.0 us)

  -- as many turns as there are tokens are enough
  enough_at : (m n : ℕ) (left : A) (x : T) (ts : List T) → ((a : A) (us : List T) → length us ≤ length ts → many test next m a us ≡ many test next n a us) → (o : Option K) → test x ≡ o
      → on_some o (λ k. after (next k left) (many test next m) ts) (give left (x ∷ ts)) ≡ on_some o (λ k. after (next k left) (many test next n) ts) (give left (x ∷ ts))
  unfolding after
  enough_at m n left x ts h None q = refl
  enough_at m n left x ts h (Some k) q = then_same (next k left ts) _ _ (λ a us e. h a us (fewer x k q left ts a us e))

  pub enough : (m n : ℕ) (left : A) (ts : List T) → length ts ≤ m → length ts ≤ n → many test next m left ts ≡ many test next n left ts
  unfolding many either
  enough zero zero left ts p q = refl
  enough zero (suc n) left [] p q = refl
  enough zero (suc n) left (x ∷ ts) p q = absurd (omega arith)
  enough (suc m) zero left [] p q = refl
  enough (suc m) zero left (x ∷ ts) p q = absurd (omega arith)
  enough (suc m) (suc n) left [] p q = refl
  enough (suc m) (suc n) left (x ∷ ts) p q = enough_at m n left x ts (λ a us few. enough m n a us (omega arith) (omega arith)) (test x) refl

  is_all_at : (left : A) → IsReader (all test next left)
  unfolding all
  is_all_at left = record {
    ok_left = λ ts a rest e. (is_many (length ts) left).ok_left ts a rest e;
    at_left = λ ts rest e. (is_many (length ts) left).at_left ts rest e;
    ok_same = λ xs t ys zs w a e.
        let n = length (xs ++ t ∷ ys) + length (xs ++ t ∷ zs) in
        enough (length (xs ++ t ∷ zs)) n left (xs ++ t ∷ zs) (omega arith) (omega arith)
        ∙ (is_many n left).ok_same xs t ys zs w a (enough n (length (xs ++ t ∷ ys)) left (xs ++ t ∷ ys) (omega arith) (omega arith) ∙ e);
    at_same = λ xs t ys zs w e.
        let n = length (xs ++ t ∷ ys) + length (xs ++ t ∷ zs) in
        enough (length (xs ++ t ∷ zs)) n left (xs ++ t ∷ zs) (omega arith) (omega arith)
        ∙ (is_many n left).at_same xs t ys zs w (enough n (length (xs ++ t ∷ ys)) left (xs ++ t ∷ ys) (omega arith) (omega arith) ∙ e);
  }

  -- one turn, and the others
  pub all_is : (left : A) (ts : List T) → all test next left ts ≡ either test (λ k. after (next k left) (all test next)) (give left) ts
  unfolding all many either after
  all_is left [] = refl
  all_is left (x ∷ ts) = turn (test x) refl
    where
      turn : (o : Option K) → test x ≡ o → on_some o (λ k. then_read (next k left ts) (many test next (length ts))) (give left (x ∷ ts)) ≡ on_some o (λ k. then_read (next k left ts) (λ a us. many test next (length us) a us)) (give left (x ∷ ts))
      turn None q = refl
      turn (Some k) q = then_same (next k left ts) _ _ (λ a us e. let few = fewer x k q left ts a us e in enough (length ts) (length us) a us (omega arith) (omega arith))

pub is_all : {T A K : Type 0} {test : T → Option K} {next : K → A → Reader T A} → ((x : T) (k : K) → test x ≡ Some k → (left : A) → IsReader (next k left)) → (left : A) → IsReader (all test next left)
is_all {T} {A} {K} {test} {next} r left = is_all_at test next r left

-- ---- Until the whole is read

pub is_and_on : {T A C : Type 0} {again : A → Reader T C} → ((a : A) → IsReader (again a)) → (s : Turn A C) → IsReader (and_on again s)
is_and_on h (going a) = h a
is_and_on h (done c) = is_give c

module _ {T A C K : Type 0} (test : T → Option K) (turn : K → A → Reader T (Turn A C)) (r : (x : T) (k : K) → test x ≡ Some k → (left : A) → IsReader (turn k left)) where
  is_tries : (n : ℕ) (left : A) → IsReader (tries test turn n left)
  unfolding tries
  is_tries zero left = is_fail
  is_tries (suc n) left = is_either (λ x k q. is_after (r x k q left) (is_and_on (is_tries n))) is_fail

  fewer_then : (x : T) (k : K) → test x ≡ Some k → (left : A) (ts : List T) (s : Turn A C) (us : List T) → turn k left ts ≡ Ok (s, us) → length us ≤ length ts
  fewer_then x k q left ts s us e = let m = (r x k q left).ok_left ts s us e in omega (arith, ap length m.1, length-append m.0 us)

  next_enough : (m n : ℕ) (us : List T) → ((a : A) → tries test turn m a us ≡ tries test turn n a us) → (s : Turn A C) → and_on (tries test turn m) s us ≡ and_on (tries test turn n) s us
  next_enough m n us h (going a) = h a
  next_enough m n us h (done c) = refl

  tries_at : (m n : ℕ) (left : A) (x : T) (ts : List T) → ((a : A) (us : List T) → length us ≤ length ts → tries test turn m a us ≡ tries test turn n a us) → (o : Option K) → test x ≡ o
      → on_some o (λ k. after (turn k left) (and_on (tries test turn m)) ts) (fail (x ∷ ts)) ≡ on_some o (λ k. after (turn k left) (and_on (tries test turn n)) ts) (fail {A = C} (x ∷ ts))
  unfolding after
  tries_at m n left x ts h None q = refl
  tries_at m n left x ts h (Some k) q = then_same (turn k left ts) _ _ (λ s us e. next_enough m n us (λ a. h a us (fewer_then x k q left ts s us e)) s)

  tries_empty : (n : ℕ) (left : A) → tries test turn n left [] ≡ Err (At [])
  unfolding tries either fail
  tries_empty zero left = refl
  tries_empty (suc n) left = refl

  tries_enough : (m n : ℕ) (left : A) (ts : List T) → length ts ≤ m → length ts ≤ n → tries test turn m left ts ≡ tries test turn n left ts
  unfolding tries either
  tries_enough m n left [] p q = tries_empty m left ∙ sym (tries_empty n left)
  tries_enough zero n left (x ∷ ts) p q = absurd (omega arith)
  tries_enough (suc m) zero left (x ∷ ts) p q = absurd (omega arith)
  tries_enough (suc m) (suc n) left (x ∷ ts) p q = tries_at m n left x ts (λ a us few. tries_enough m n a us (omega arith) (omega arith)) (test x) refl

  is_until_at : (left : A) → IsReader (until test turn left)
  unfolding until
  is_until_at left = record {
    ok_left = λ ts a rest e. (is_tries (length ts) left).ok_left ts a rest e;
    at_left = λ ts rest e. (is_tries (length ts) left).at_left ts rest e;
    ok_same = λ xs t ys zs w a e.
        let n = length (xs ++ t ∷ ys) + length (xs ++ t ∷ zs) in
        tries_enough (length (xs ++ t ∷ zs)) n left (xs ++ t ∷ zs) (omega arith) (omega arith)
        ∙ (is_tries n left).ok_same xs t ys zs w a (tries_enough n (length (xs ++ t ∷ ys)) left (xs ++ t ∷ ys) (omega arith) (omega arith) ∙ e);
    at_same = λ xs t ys zs w e.
        let n = length (xs ++ t ∷ ys) + length (xs ++ t ∷ zs) in
        tries_enough (length (xs ++ t ∷ zs)) n left (xs ++ t ∷ zs) (omega arith) (omega arith)
        ∙ (is_tries n left).at_same xs t ys zs w (tries_enough n (length (xs ++ t ∷ ys)) left (xs ++ t ∷ ys) (omega arith) (omega arith) ∙ e);
  }

  -- one turn, and the others
  pub until_going : (left : A) (x : T) (ts : List T) (k : K) (a : A) (us : List T) → test x ≡ Some k → turn k left ts ≡ Ok (going a, us) → until test turn left (x ∷ ts) ≡ until test turn a us
  unfolding until tries either after
  until_going left x ts k a us e h = rw (e, h) (tries_enough (length ts) (length us) a us (fewer_then x k e left ts (going a) us h) (omega arith))

  pub until_done : (left : A) (x : T) (ts : List T) (k : K) (c : C) (us : List T) → test x ≡ Some k → turn k left ts ≡ Ok (done c, us) → until test turn left (x ∷ ts) ≡ Ok (c, us)
  unfolding until tries either after give
  until_done left x ts k c us e h = rw (e, h)

  pub until_is : (left : A) (x : T) (ts : List T) (k : K) → test x ≡ Some k → until test turn left (x ∷ ts) ≡ after (turn k left) (and_on (until test turn)) ts
  unfolding until tries either after
  until_is left x ts k e = rw e (then_same (turn k left ts) _ _ (λ s us h. next_until ts us s (fewer_then x k e left ts s us h)))
    where
      next_until : (ts us : List T) (s : Turn A C) → length us ≤ length ts → and_on (tries test turn (length ts)) s us ≡ and_on (until test turn) s us
      next_until ts us (going a) few = tries_enough (length ts) (length us) a us few (omega arith)
      next_until ts us (done c) few = refl

pub is_until : {T A C K : Type 0} {test : T → Option K} {turn : K → A → Reader T (Turn A C)} → ((x : T) (k : K) → test x ≡ Some k → (left : A) → IsReader (turn k left)) → (left : A) → IsReader (until test turn left)
is_until {T} {A} {C} {K} {test} {turn} r left = is_until_at test turn r left

module _ {T A : Type 0} (a : A) where
  ended : (ts : List T) (b : A) (rest : List T) → finished a ts ≡ Ok (b, rest) → (used : List T) × (ts ≡ used ++ rest)
  unfolding finished
  ended [] b rest e = ([], (same_ok a [] b rest e).1)
  ended (x ∷ ts) b rest e = absurd (cc)

  stopped : (ts rest : List T) → finished a ts ≡ Err (At rest) → (used : List T) × (ts ≡ used ++ rest)
  unfolding finished
  stopped [] rest e = absurd (cc)
  stopped (x ∷ ts) rest e = ([], same_at {T = T} {A = A} (x ∷ ts) rest e)

  not_ended : (xs : List T) (t : T) (ys : List T) (r : A × List T) → finished a (xs ++ t ∷ ys) ≡ Ok r → ⊥
  unfolding finished
  not_ended [] t ys r e = cc
  not_ended (x ∷ xs) t ys r e = cc

  stops_here : (xs : List T) (t : T) (ys : List T) → finished a (xs ++ t ∷ ys) ≡ Err (At (xs ++ t ∷ ys))
  unfolding finished
  stops_here [] t ys = refl
  stops_here (x ∷ xs) t ys = refl

  finished_is : IsReader (finished {T = T} a)
  finished_is = record {
    ok_left = ended;
    at_left = stopped;
    ok_same = λ xs t ys zs w b e. absurd (not_ended xs t ys (b, w ++ t ∷ ys) e);
    at_same = λ xs t ys zs w e.
        let all_same : xs ++ t ∷ ys ≡ w ++ t ∷ ys = same_at {T = T} {A = A} (xs ++ t ∷ ys) (w ++ t ∷ ys) (sym (stops_here xs t ys) ∙ e) in
        stops_here xs t zs ∙ ap (λ l. Err (At (l ++ t ∷ zs))) (same_front xs w (t ∷ ys) all_same);
  }

pub is_finished : {T A : Type 0} (a : A) → IsReader (finished {T = T} a)
is_finished {T} a = finished_is {T = T} a
