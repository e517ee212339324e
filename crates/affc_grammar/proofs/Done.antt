-- A reader that reads all of what is given, up to what is left; that it runs out of room is let through.
use Rattle.std.proofs.Common.{◌≡◌, List, [], ◌∷◌, Option, Some, None, Ok, Err, refl, sym, ap, ◌∙◌, subst}
use Rattle.affc_grammar.specs.Reader.{At, Deep, Read, Reader, then_read, on_some, Turn, give, deep, after, either, many, all, until, and_on, finished, IsReader}
use Rattle.affc_grammar.proofs.Closed.{all_is, until_is}

abbrev pub IsDone : {T A : Type 0} → A → List T → Read T A → Type 0
IsDone a rest (Ok x) = x ≡ (a, rest)
IsDone a rest (Err (At ts)) = ⊥
IsDone a rest (Err Deep) = Unit {0}

-- the reader reads this, and leaves the rest
pub record Gets {T A : Type 0} (p : Reader T A) (ts : List T) (a : A) (rest : List T) : Type 0 where
  pub is : IsDone a rest (p ts)

-- the first token, if there is one, doesn't pass the test
abbrev pub NotNext : {T K : Type 0} → (T → Option K) → List T → Type 0
NotNext test [] = Unit {0}
NotNext test (x ∷ ts) = test x ≡ None

pub gets_give : {T A : Type 0} {a : A} {rest : List T} → Gets (give a) rest a rest
unfolding give
gets_give = record { is = refl }

pub gets_deep : {T A : Type 0} {ts : List T} {a : A} {rest : List T} → Gets deep ts a rest
unfolding deep
gets_deep = record { is = tt }

then_done : {T A B : Type 0} (r : Read T A) (f : A → Reader T B) (a : A) (us : List T) (b : B) (rest : List T) → IsDone a us r → IsDone b rest (f a us) → IsDone b rest (then_read r f)
then_done (Ok y) f a us b rest e h = subst (λ y. IsDone b rest (f y.0 y.1)) (sym e) h
then_done (Err (At ts)) f a us b rest e h = absurd e
then_done (Err Deep) f a us b rest e h = tt

pub gets_after : {T A B : Type 0} {p : Reader T A} (f : A → Reader T B) {ts us rest : List T} {a : A} {b : B} → Gets p ts a us → Gets (f a) us b rest → Gets (after p f) ts b rest
unfolding after
gets_after {p = p} f {ts} {us} {rest} {a} {b} e h = record { is = then_done (p ts) f a us b rest e.is h.is }

pub gets_on : {T A K : Type 0} (test : T → Option K) (past : K → Reader T A) (other : Reader T A) {x : T} {ts rest : List T} {k : K} {a : A} → test x ≡ Some k → Gets (past k) ts a rest → Gets (either test past other) (x ∷ ts) a rest
unfolding either
gets_on test past other {x} {ts} {rest} {k} {a} e h = record { is = subst (λ o. IsDone a rest (on_some o (λ k. past k ts) (other (x ∷ ts)))) (sym e) h.is }

other_at : {T A K : Type 0} (test : T → Option K) (past : K → Reader T A) (other : Reader T A) (ts : List T) (a : A) (rest : List T) → NotNext test ts → IsDone a rest (other ts) → IsDone a rest (either test past other ts)
unfolding either
other_at test past other [] a rest e h = h
other_at test past other (x ∷ ts) a rest e h = subst (λ o. IsDone a rest (on_some o (λ k. past k ts) (other (x ∷ ts)))) (sym e) h

pub gets_other : {T A K : Type 0} (test : T → Option K) (past : K → Reader T A) {other : Reader T A} {ts rest : List T} {a : A} → NotNext test ts → Gets other ts a rest → Gets (either test past other) ts a rest
gets_other test past {other} {ts} {rest} {a} e h = record { is = other_at test past other ts a rest e h.is }

-- past the first token
pub gets_past : {T A K : Type 0} (test : T → Option K) (past : K → Reader T A) (other : Reader T A) {x : T} {ts rest : List T} {k : K} {a : A} → test x ≡ Some k → Gets (either test past other) (x ∷ ts) a rest → Gets (past k) ts a rest
unfolding either
gets_past test past other {x} {ts} {rest} {a = a} e h = record { is = subst (λ o. IsDone a rest (on_some o (λ k. past k ts) (other (x ∷ ts)))) e h.is }

passed_by : {T A K : Type 0} (test : T → Option K) (past : K → Reader T A) (other : Reader T A) (ts : List T) → NotNext test ts → either test past other ts ≡ other ts
unfolding either
passed_by test past other [] e = refl
passed_by test past other (x ∷ ts) e = ap (λ o. on_some o (λ k. past k ts) (other (x ∷ ts))) e

pub gets_other_then : {T A C K : Type 0} (test : T → Option K) (past : K → Reader T A) (other : Reader T A) (next : A → Reader T C) {ts rest : List T} {c : C} → NotNext test ts → Gets (after other next) ts c rest → Gets (after (either test past other) next) ts c rest
unfolding after
gets_other_then test past other next {ts} {rest} {c} e h = record { is = subst (λ r. IsDone c rest (then_read r next)) (sym (passed_by test past other ts e)) h.is }

-- a loop ends
end_at : {T A K : Type 0} (test : T → Option K) (turn : K → A → Reader T A) (a : A) (rest : List T) → NotNext test rest → IsDone a rest (all test turn a rest)
unfolding all many give either
end_at test turn a [] e = refl
end_at test turn a (x ∷ rest) e = rw e refl

pub gets_end : {T A K : Type 0} (test : T → Option K) (turn : K → A → Reader T A) {a : A} {rest : List T} → NotNext test rest → Gets (all test turn a) rest a rest
gets_end test turn {a} {rest} e = record { is = end_at test turn a rest e }

-- the same reader and the same tokens, written another way
pub gets_same : {T A : Type 0} {p q : Reader T A} {ts us rest : List T} {a : A} → p ts ≡ q us → Gets q us a rest → Gets p ts a rest
gets_same {rest = rest} {a} e h = record { is = subst (IsDone a rest) (sym e) h.is }

-- a turn of a loop, and what follows it
module _ {T A K : Type 0} {test : T → Option K} {turn : K → A → Reader T A} (r : (x : T) (k : K) → test x ≡ Some k → (left : A) → IsReader (turn k left)) {left : A} {x : T} {ts us : List T} {k : K} {a : A} (e : test x ≡ Some k) (t : Gets (turn k left) ts a us) where
  pub gets_turn : {b : A} {rest : List T} → Gets (all test turn a) us b rest → Gets (all test turn left) (x ∷ ts) b rest
  gets_turn h = gets_same (all_is test turn r left (x ∷ ts)) (gets_on _ _ _ e (gets_after _ t h))

  turn_then : {C : Type 0} (f : A → Reader T C) (c : C) (rest : List T) (o : Read T A) → IsDone a us o → IsDone c rest (then_read (all test turn a us) f) → IsDone c rest (then_read (then_read o (all test turn)) f)
  turn_then f c rest (Ok y) e h = subst (λ y. IsDone c rest (then_read (all test turn y.0 y.1) f)) (sym e) h
  turn_then f c rest (Err (At ts)) e h = absurd e
  turn_then f c rest (Err Deep) e h = tt

  passed : either test (λ k. after (turn k left) (all test turn)) (give left) (x ∷ ts) ≡ then_read (turn k left ts) (all test turn)
  unfolding either after
  passed = rw e refl

  pub gets_turn_then : {C : Type 0} (f : A → Reader T C) {c : C} {rest : List T} → Gets (after (all test turn a) f) us c rest → Gets (after (all test turn left) f) (x ∷ ts) c rest
  unfolding after
  gets_turn_then {C} f {c} {rest} h = record { is = subst (λ r. IsDone c rest (then_read r f)) (sym (all_is test turn r left (x ∷ ts) ∙ passed)) (turn_then f c rest (turn k left ts) t.is h.is) }

-- what follows one reader and another follows both
pub gets_both : {T A B C : Type 0} (p : Reader T A) (f : A → Reader T B) (g : B → Reader T C) {ts end : List T} {c : C} → Gets (after p (λ a. after (f a) g)) ts c end → Gets (after (after p f) g) ts c end
unfolding after
gets_both {T} {A} {B} {C} p f g {ts} {end} {c} h = record { is = at (p ts) h.is }
  where
    at : (o : Read T A) → IsDone c end (then_read o (λ a us. then_read (f a us) g)) → IsDone c end (then_read (then_read o f) g)
    at (Ok y) h = h
    at (Err (At us)) h = h
    at (Err Deep) h = h

-- a turn of a loop that ends by itself
pub gets_until : {T A C K : Type 0} {test : T → Option K} {turn : K → A → Reader T (Turn A C)} → ((x : T) (k : K) → test x ≡ Some k → (left : A) → IsReader (turn k left)) → (left : A) {x : T} {ts rest : List T} {k : K} {c : C}
    → test x ≡ Some k → Gets (after (turn k left) (and_on (until test turn))) ts c rest → Gets (until test turn left) (x ∷ ts) c rest
gets_until {test = test} {turn} r left {x} {ts} {rest} {k} {c} e h = gets_same (until_is test turn r left x ts k e) h

pub gets_finished : {T A : Type 0} {a : A} → Gets {T = T} (finished a) [] a []
unfolding finished
gets_finished = record { is = refl }
