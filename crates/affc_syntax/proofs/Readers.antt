-- Loops of readers of drafts, and that a reader leaves no more tokens than it was given: for any readers.
use Rattle.std.proofs.Common.{◌≡◌, ℕ, zero, suc, ◌+◌, ◌-◌, ◌≤◌, ◌<◌, min, List, [], ◌∷◌, length, get_or, drop, map, Option, Some, None, Result, Ok, Err, refl, sym, ap, subst, ◌∙◌, arith, length-drop, drop-cons, add-one}
use Rattle.std.proofs.lemmas.List.{length-map, drop-map, drop_min, map-append}
use Rattle.affc_grammar.specs.Grammar.{Symbol}
use Rattle.affc_grammar.specs.Reader.{Stop, At, Deep, Read, Reader, then_read}
use Rattle.affc_grammar.specs.Reading.{this_mark}
use Rattle.affc_grammar.proofs.Closed.{then_ok, then_same}
use Rattle.affc_syntax.specs.declared.ahead.Stop as stop
use Rattle.affc_syntax.specs.declared.ahead.Stop.TheVariants as s
use Rattle.affc_syntax.specs.declared.draft.symbol.Symbol as code
use Rattle.affc_syntax.specs.draft.Symbols.{seen}
use Rattle.affc_syntax.specs.Ahead.{past, with_rest}
use Rattle.affc_syntax.specs.Readers.{on_past, closed, Fails, Gives, counted, more, all_more}

pub ruleset lengths = (length-map)

pub ruleset lists = (map-append)

-- the symbols from one on
pub first_is : (ss : List code.Symbol) (at : ℕ) (x : code.Symbol) → at < length ss → x ≡ get_or ss at x → drop at (map seen ss) ≡ seen x ∷ drop (at + 1) (map seen ss)
first_is ss at x lt is =
    drop-map seen at ss ∙ ap (map seen) (drop-cons ss at x lt ∙ ap (λ n. get_or ss at x ∷ drop n ss) (sym (add-one at))) ∙ ap (λ y. seen y ∷ map seen (drop (at + 1) ss)) (sym is) ∙ ap (λ l. seen x ∷ l) (sym (drop-map seen (at + 1) ss))

-- what is left is no longer than what was given
abbrev pub Left : {A : Type 0} → Read Symbol A → ℕ → Type 0
Left {A} r n = (a : A) (us : List Symbol) → r ≡ Ok (a, us) → length us ≤ n

abbrev pub Shrinks : {A : Type 0} → Reader Symbol A → Type 0
Shrinks p = (ts : List Symbol) → Left (p ts) (length ts)

pub left_give : {A : Type 0} (b : A) (ts : List Symbol) (n : ℕ) → length ts ≤ n → Left (Ok (b, ts)) n
left_give {A} b ts n le a us e =
    let pair : ◌≡◌ {A = A × List Symbol} (b, ts) (a, us) = cc in
    omega (arith, ap (λ p. length p.1) pair)

pub left_fail : {A : Type 0} (s : Stop Symbol) (n : ℕ) → Left {A = A} (Err s) n
left_fail s n a us e = absurd (cc)

pub left_then : {A B : Type 0} (r : Read Symbol A) (f : A → Reader Symbol B) (n : ℕ) → Left r n → ((a : A) → Shrinks (f a)) → Left (then_read r f) n
left_then r f n h k b us e =
    let m = then_ok r f (b, us) e in
    let first : length m.1 ≤ n = h m.0 m.1 m.2 in
    let second : length us ≤ length m.1 = k m.0 m.1 b us m.3 in
    omega arith

pub left_past : {K A : Type 0} (o : Option (K × List Symbol)) (next : K → Reader Symbol A) (other : Read Symbol A) (n : ℕ) → ((k : K) (us : List Symbol) → o ≡ Some (k, us) → length us < n) → ((k : K) → Shrinks (next k)) → Left other n → Left (on_past o next other) n
left_past None next other n h k l a us e = l a us e
left_past (Some r) next other n h k l a us e =
    let first : length r.1 < n = h r.0 r.1 refl in
    let second : length us ≤ length r.1 = k r.0 r.1 a us e in
    omega arith

pub some_pair : {K : Type 0} (k : K) (us : List Symbol) (l : K) (vs : List Symbol) → ◌≡◌ {A = Option (K × List Symbol)} (Some (k, us)) (Some (l, vs)) → us ≡ vs
some_pair {K} k us l vs e = let pair : ◌≡◌ {A = K × List Symbol} (k, us) (l, vs) = cc in ap (λ p. p.1) pair

pub past_shorter : {K : Type 0} (test : Symbol → Option K) (ts : List Symbol) (k : K) (us : List Symbol) → past test ts ≡ Some (k, us) → length us < length ts
past_shorter test [] k us e = absurd (cc)
past_shorter {K} test (x ∷ ts) k us e = of_test (test x) e
  where
    of_test : (o : Option K) → with_rest ts o ≡ Some (k, us) → length us < suc (length ts)
    of_test None e = absurd (cc)
    of_test (Some l) e = omega (arith, ap length (some_pair l ts k us e))

pub on_test : {K A : Type 0} (test : Symbol → Option K) (next : K → Reader Symbol A) (other : Read Symbol A) (ts : List Symbol) → ((k : K) → Shrinks (next k)) → Left other (length ts) → Left (on_past (past test ts) next other) (length ts)
on_test test next other ts h l = left_past (past test ts) next other (length ts) (past_shorter test ts) h l

-- ---- Loops

module _ {A K : Type 0} (test : Symbol → Option K) (turn : K → A → Reader Symbol A) (h : (k : K) (left : A) → Shrinks (turn k left)) where
  pub same_turn : (m n : ℕ) (left : A) (x : Symbol) (ts : List Symbol) → ((a : A) (us : List Symbol) → length us ≤ length ts → more test turn m a us ≡ more test turn n a us) → (o : Option K)
      → on_past (with_rest ts o) (λ k us. then_read (turn k left us) (more test turn m)) (Ok (left, x ∷ ts)) ≡ on_past (with_rest ts o) (λ k us. then_read (turn k left us) (more test turn n)) (Ok (left, x ∷ ts))
  same_turn m n left x ts e None = refl
  same_turn m n left x ts e (Some k) = then_same (turn k left ts) _ _ (λ a us q. e a us (h k left ts a us q))

  pub enough : (m n : ℕ) (left : A) (ts : List Symbol) → length ts ≤ m → length ts ≤ n → more test turn m left ts ≡ more test turn n left ts
  enough zero zero left ts p q = refl
  enough zero (suc n) left [] p q = refl
  enough zero (suc n) left (x ∷ ts) p q = absurd (omega arith)
  enough (suc m) zero left [] p q = refl
  enough (suc m) zero left (x ∷ ts) p q = absurd (omega arith)
  enough (suc m) (suc n) left [] p q = refl
  enough (suc m) (suc n) left (x ∷ ts) p q = same_turn m n left x ts (λ a us few. enough m n a us (omega arith) (omega arith)) (test x)

  pub all_more_is : (left : A) (ts : List Symbol) → all_more test turn left ts ≡ on_past (past test ts) (λ k us. then_read (turn k left us) (all_more test turn)) (Ok (left, ts))
  unfolding all_more
  all_more_is left [] = refl
  all_more_is left (x ∷ ts) = first_turn (test x)
    where
      first_turn : (o : Option K) → on_past (with_rest ts o) (λ k us. then_read (turn k left us) (more test turn (length ts))) (Ok (left, x ∷ ts)) ≡ on_past (with_rest ts o) (λ k us. then_read (turn k left us) (λ a vs. more test turn (length vs) a vs)) (Ok (left, x ∷ ts))
      first_turn None = refl
      first_turn (Some k) = then_same (turn k left ts) _ _ (λ a us q. let few = h k left ts a us q in enough (length ts) (length us) a us (omega arith) (omega arith))

  pub loop_on : (left : A) (ts : List Symbol) (k : K) (us : List Symbol) (b : A) (rest : List Symbol) → past test ts ≡ Some (k, us) → turn k left us ≡ Ok (b, rest) → all_more test turn left ts ≡ all_more test turn b rest
  loop_on left ts k us b rest e q =
      all_more_is left ts
      ∙ ap (λ o. on_past o (λ k us. then_read (turn k left us) (all_more test turn)) (Ok (left, ts))) e
      ∙ ap (λ r. then_read r (all_more test turn)) q

  pub loop_end : (left : A) (ts : List Symbol) → past test ts ≡ None → all_more test turn left ts ≡ Ok (left, ts)
  loop_end left ts e = all_more_is left ts ∙ ap (λ o. on_past o (λ k us. then_read (turn k left us) (all_more test turn)) (Ok (left, ts))) e

  pub loop_err : (left : A) (ts : List Symbol) (k : K) (us : List Symbol) (x : Stop Symbol) → past test ts ≡ Some (k, us) → turn k left us ≡ Err x → all_more test turn left ts ≡ Err x
  loop_err left ts k us x e q =
      all_more_is left ts
      ∙ ap (λ o. on_past o (λ k us. then_read (turn k left us) (all_more test turn)) (Ok (left, ts))) e
      ∙ ap (λ r. then_read r (all_more test turn)) q
      ∙ err x
    where
      err : (x : Stop Symbol) → then_read (Err x) (all_more test turn) ≡ Err x
      err (At ts) = refl
      err Deep = refl

  pub loop_stop : (ss : List Symbol) (left : A) (ts : List Symbol) (k : K) (us : List Symbol) (f : stop.Stop) → past test ts ≡ Some (k, us) → Fails ss f (turn k left us) → Fails ss f (all_more test turn left ts)
  loop_stop ss left ts k us s.Memory e q = tt
  loop_stop ss left ts k us s.Deep e q = loop_err left ts k us Deep e q
  loop_stop ss left ts k us (s.At rest) e q = loop_err left ts k us _ e q

  pub loop_left : (n : ℕ) (left : A) → Shrinks (more test turn n left)
  loop_left zero left ts = left_give left ts (length ts) (omega arith)
  loop_left (suc n) left ts = on_test test (λ k us. then_read (turn k left us) (more test turn n)) (Ok (left, ts)) ts (λ k us. left_then (turn k left us) (more test turn n) (length us) (h k left us) (loop_left n)) (left_give left ts (length ts) (omega arith))

  pub all_left : (left : A) → Shrinks (all_more test turn left)
  unfolding all_more
  all_left left ts = loop_left (length ts) left ts

pub closed_left : {A : Type 0} (mark : List ℕ) (a : A) → Shrinks (closed mark a)
closed_left mark a ts = on_test (this_mark mark) (λ _ us. Ok (a, us)) (Err (At ts)) ts (λ _ us. left_give a us (length us) (omega arith)) (left_fail (At ts) (length ts))

-- what fails does so with anything behind it
pub fails_then : {A B : Type 0} (ss : List Symbol) (f : stop.Stop) (r : Read Symbol A) (g : A → Reader Symbol B) → Fails ss f r → Fails ss f (then_read r g)
fails_then ss s.Memory r g e = tt
fails_then ss s.Deep r g e = ap (λ x. then_read x g) e
fails_then ss (s.At next) r g e = ap (λ x. then_read x g) e

-- ---- At the numbers of symbols

pub less_left : (symbols : List code.Symbol) (n b r : ℕ) → length (drop b (map seen symbols)) < length (drop n (map seen symbols)) → length (drop r (map seen symbols)) ≤ length (drop b (map seen symbols)) → length symbols - r < length symbols - n
less_left symbols n b r p q =
    let all : length (map seen symbols) ≡ length symbols = length-map symbols seen in
    let m = length-drop n (map seen symbols) in
    let k = length-drop r (map seen symbols) in
    omega (arith, p, q, all, m, k)

-- a number behind the last symbol leaves as little as that of the end
pub same_left : (symbols : List code.Symbol) (n : ℕ) → drop n (map seen symbols) ≡ drop (min n (length symbols)) (map seen symbols)
same_left symbols n = sym (ap (λ l. drop (min n l) (map seen symbols)) (sym (length-map symbols seen)) ∙ drop_min n (map seen symbols))

pub gives_counted : {T D : Type 0} (symbols : List code.Symbol) (see : T → D) (r : Result (T × ℕ) stop.Stop) (read : Read Symbol D) → Gives (map seen symbols) see r read → Gives (map seen symbols) see (counted (length symbols) r) read
gives_counted symbols see (Ok r) read e = e ∙ ap (λ l. Ok (see r.0, l)) (same_left symbols r.1)
gives_counted symbols see (Err (s.At n)) read e = e ∙ ap (λ l. Err (At l)) (same_left symbols n)
gives_counted symbols see (Err s.Deep) read e = e
gives_counted symbols see (Err s.Memory) read e = e

pub counted_gives : {T D : Type 0} (symbols : List code.Symbol) (see : T → D) (r q : Result (T × ℕ) stop.Stop) (read : Read Symbol D) → q ≡ counted (length symbols) r → Gives (map seen symbols) see r read → Gives (map seen symbols) see q read
counted_gives symbols see r q read e g = subst (λ x. Gives (map seen symbols) see x read) (sym e) (gives_counted symbols see r read g)
