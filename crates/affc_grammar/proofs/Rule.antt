-- A reader of a rule: what it reads is spelled so, what it passed before it stopped begins something of the rule, and it runs out of room only where too many
-- brackets are open. Closed under giving, failing, one after another, the first token, and repetition.
use Rattle.std.proofs.Common.{◌≡◌, ℕ, zero, suc, ◌+◌, ◌≤◌, List, [], ◌∷◌, ◌++◌, length, Option, Some, None, Ok, Err, refl, sym, ap, ◌∙◌, subst, ◌⊎◌, inl, inr, arith, append_assoc, append-nil}
use Rattle.affc_grammar.specs.Reader.{At, Deep, Read, Reader, then_read, on_some, Turn, going, done, give, fail, deep, after, either, many, all, tries, until, and_on, finished, Within, IsReader}
use Rattle.affc_grammar.proofs.Closed.{is_give, is_fail, is_deep, is_after, is_either, is_all, is_until, is_finished, then_ok, then_at, same_ok, same_at, same_front}

abbrev pub Keeps : {T A : Type 0} → (ℕ → T → ℕ) → (limit n : ℕ) → Read T A → Type 0
Keeps next limit n (Ok x) = Within next limit n x.1
Keeps next limit n (Err (At ts)) = Unit {0}
Keeps next limit n (Err Deep) = ⊥

-- `front` puts what was read before in front; `start` brackets are open where the reader begins and `end` where it ends, counted from where at most `room` may be open
pub record Rule {T C : Type 0} (next : ℕ → T → ℕ) (room start end : ℕ) (spelled : C → List T) (front : List T → List T) (p : Reader T C) : Type 0 where
  pub reader : IsReader p
  pub sound : (ts : List T) (c : C) (rest : List T) → p ts ≡ Ok (c, rest) → front ts ≡ spelled c ++ rest
  pub started : (ts rest : List T) → p ts ≡ Err (At rest) → (used : List T) × (ts ≡ used ++ rest) × (c : C) × (tail : List T) × (spelled c ≡ front (used ++ tail))
  pub can : (c : C) × (tail : List T) × (spelled c ≡ front tail)
  pub shallow : (k : ℕ) (ts : List T) → Within next (k + room) (k + start) ts → Keeps next (k + room) (k + end) (p ts)

pub within_now : {T : Type 0} (next : ℕ → T → ℕ) (limit n : ℕ) (ts : List T) → Within next limit n ts → n ≤ limit
within_now next limit n [] w = w
within_now next limit n (t ∷ ts) w = w.0

pub give_rule : {T C : Type 0} {next : ℕ → T → ℕ} {room at : ℕ} {spelled : C → List T} {front : List T → List T} (c : C) → ((r : List T) → front r ≡ spelled c ++ r) → Rule next room at at spelled front (give c)
unfolding give
give_rule {T} {C} {next} {room} {at} {spelled} {front} c e = record {
  reader = is_give c;
  sound = λ ts b rest h.
      let s = same_ok c ts b rest h in
      e ts ∙ (λ i. spelled (s.0 i) ++ s.1 i);
  started = λ ts rest h. absurd (cc);
  can = (c, [], sym (append-nil (spelled c)) ∙ sym (e []));
  shallow = λ k ts w. w;
}

pub fail_rule : {T C : Type 0} {next : ℕ → T → ℕ} {room start end : ℕ} {spelled : C → List T} {front : List T → List T} → (c : C) × (tail : List T) × (spelled c ≡ front tail) → Rule next room start end spelled front fail
unfolding fail
fail_rule {T} {C} can = record {
  reader = is_fail;
  sound = λ ts b rest h. absurd (cc);
  started = λ ts rest h. ([], same_at {T = T} {A = C} ts rest h, can.0, can.1, can.2);
  can = can;
  shallow = λ k ts w. tt;
}

-- no bracket may be open, and one is
pub deep_rule : {T C : Type 0} {next : ℕ → T → ℕ} {end : ℕ} {spelled : C → List T} {front : List T → List T} → (c : C) × (tail : List T) × (spelled c ≡ front tail) → Rule next 0 1 end spelled front deep
unfolding deep
deep_rule {T} {C} {next} can = record {
  reader = is_deep;
  sound = λ ts b rest h. absurd (cc);
  started = λ ts rest h. absurd (cc);
  can = can;
  shallow = λ k ts w. let h = within_now next (k + 0) (k + 1) ts w in omega arith;
}

keeps_then : {T A B : Type 0} (next : ℕ → T → ℕ) (limit n m : ℕ) (r : Read T A) (f : A → Reader T B) → Keeps next limit n r → ((a : A) (us : List T) → Within next limit n us → Keeps next limit m (f a us)) → Keeps next limit m (then_read r f)
keeps_then next limit n m (Ok x) f w h = h x.0 x.1 w
keeps_then next limit n m (Err (At ts)) f w h = tt
keeps_then next limit n m (Err Deep) f w h = absurd w

-- a whole rule, and what follows it
pub after_rule : {T A C : Type 0} {next : ℕ → T → ℕ} {room start middle end : ℕ} {part : A → List T} {spelled : C → List T} {front : List T → List T} {p : Reader T A} {f : A → Reader T C}
    → Rule next room start middle part (λ r. r) p → ((a : A) → Rule next room middle end spelled (λ r. front (part a ++ r)) (f a)) → Rule next room start end spelled front (after p f)
unfolding after
after_rule {T} {A} {C} {next} {room} {start} {middle} {end} {part} {spelled} {front} {p} {f} rule others = record {
  reader = is_after rule.reader (λ a. (others a).reader);
  sound = λ ts c rest h.
      let k = then_ok (p ts) f (c, rest) h in
      ap front (rule.sound ts k.0 k.1 k.2) ∙ (others k.0).sound k.1 c rest k.3;
  started = λ ts rest h. started_at ts rest (then_at (p ts) f rest h);
  can =
      let a = rule.can.0 in
      let c = (others a).can in
      (c.0, part a ++ c.1, c.2);
  shallow = λ k ts w. keeps_then next (k + room) (k + middle) (k + end) (p ts) f (rule.shallow k ts w) (λ a us v. (others a).shallow k us v);
}
  where
    started_at : (ts rest : List T) → (p ts ≡ Err (At rest)) ⊎ ((a : A) × (us : List T) × (p ts ≡ Ok (a, us)) × (f a us ≡ Err (At rest))) → (used : List T) × (ts ≡ used ++ rest) × (c : C) × (tail : List T) × (spelled c ≡ front (used ++ tail))
    started_at ts rest (inl h) =
        let m = rule.started ts rest h in
        let c = (others m.2).can in
        (m.0, m.1, c.0, m.3 ++ c.1, c.2 ∙ ap front (ap (λ l. l ++ c.1) m.4 ∙ append_assoc m.0 m.3 c.1))
    started_at ts rest (inr k) =
        let m = (others k.0).started k.1 rest k.3 in
        let front_part = part k.0 in
        (front_part ++ m.0, rule.sound ts k.0 k.1 k.2 ∙ ap (λ l. front_part ++ l) m.1 ∙ sym (append_assoc front_part m.0 rest), m.2, m.3, m.4 ∙ ap front (sym (append_assoc front_part m.0 m.3)))

-- a reader that goes on with what was read before (`near`), inside something (`far`), and what follows it
pub nested_rule : {T A C : Type 0} {next : ℕ → T → ℕ} {room start middle end : ℕ} {part : A → List T} {spelled : C → List T} (far near : List T → List T) {p : Reader T A} {f : A → Reader T C}
    → ((x y : List T) → near x ++ y ≡ near (x ++ y)) → Rule next room start middle part near p → ((a : A) → Rule next room middle end spelled (λ r. far (part a ++ r)) (f a)) → Rule next room start end spelled (λ r. far (near r)) (after p f)
unfolding after
nested_rule {T} {A} {C} {next} {room} {start} {middle} {end} {part} {spelled} far near {p} {f} natural rule others = record {
  reader = is_after rule.reader (λ a. (others a).reader);
  sound = λ ts c rest h.
      let k = then_ok (p ts) f (c, rest) h in
      ap far (rule.sound ts k.0 k.1 k.2) ∙ (others k.0).sound k.1 c rest k.3;
  started = λ ts rest h. started_at ts rest (then_at (p ts) f rest h);
  can =
      let a = rule.can in
      let c = (others a.0).can in
      (c.0, a.1 ++ c.1, c.2 ∙ ap far (ap (λ l. l ++ c.1) a.2 ∙ natural a.1 c.1));
  shallow = λ k ts w. keeps_then next (k + room) (k + middle) (k + end) (p ts) f (rule.shallow k ts w) (λ a us v. (others a).shallow k us v);
}
  where
    started_at : (ts rest : List T) → (p ts ≡ Err (At rest)) ⊎ ((a : A) × (us : List T) × (p ts ≡ Ok (a, us)) × (f a us ≡ Err (At rest))) → (used : List T) × (ts ≡ used ++ rest) × (c : C) × (tail : List T) × (spelled c ≡ far (near (used ++ tail)))
    started_at ts rest (inl h) =
        let m = rule.started ts rest h in
        let c = (others m.2).can in
        (m.0, m.1, c.0, m.3 ++ c.1, c.2 ∙ ap far (ap (λ l. l ++ c.1) m.4 ∙ natural (m.0 ++ m.3) c.1 ∙ ap near (append_assoc m.0 m.3 c.1)))
    started_at ts rest (inr k) =
        let m = (others k.0).started k.1 rest k.3 in
        let u = rule.reader.ok_left ts k.0 k.1 k.2 in
        let all_before : near u.0 ++ k.1 ≡ part k.0 ++ k.1 = natural u.0 k.1 ∙ ap near (sym u.1) ∙ rule.sound ts k.0 k.1 k.2 in
        let before : near u.0 ≡ part k.0 = same_front (near u.0) (part k.0) k.1 all_before in
        (u.0 ++ m.0, u.1 ∙ ap (λ l. u.0 ++ l) m.1 ∙ sym (append_assoc u.0 m.0 rest), m.2, m.3, m.4 ∙ ap far (ap (λ l. l ++ (m.0 ++ m.3)) (sym before) ∙ natural u.0 (m.0 ++ m.3) ∙ ap near (sym (append_assoc u.0 m.0 m.3))))

pub then_rule : {T A C : Type 0} {next : ℕ → T → ℕ} {room start middle end : ℕ} {part : A → List T} {spelled : C → List T} {front : List T → List T} {p : Reader T A} {f : A → Reader T C}
    → ((x y : List T) → front x ++ y ≡ front (x ++ y)) → Rule next room start middle part front p → ((a : A) → Rule next room middle end spelled (λ r. part a ++ r) (f a)) → Rule next room start end spelled front (after p f)
then_rule {front = front} natural rule others = nested_rule (λ r. r) front natural rule others

-- the same front, written another way
pub refront : {T C : Type 0} {next : ℕ → T → ℕ} {room start end : ℕ} {spelled : C → List T} {front other : List T → List T} {p : Reader T C} → ((r : List T) → front r ≡ other r) → Rule next room start end spelled front p → Rule next room start end spelled other p
refront {T} {C} {next} {room} {start} {end} {spelled} {front} {other} {p} e rule =
    let fronts : front ≡ other = (λ i r. e r i) in
    subst (λ f. Rule next room start end spelled f p) fronts rule

-- ---- By the first token

-- what passes the test is spelled so, and passes it
pub record IsTest {T K : Type 0} (test : T → Option K) (sign : K → T) : Type 0 where
  pub only : (x : T) (k : K) → test x ≡ Some k → x ≡ sign k
  pub passes : (k : K) → test (sign k) ≡ Some k

module _ {T C K : Type 0} {next : ℕ → T → ℕ} {room start end : ℕ} {middle : K → ℕ} {spelled : C → List T} {front : List T → List T} {test : T → Option K} {sign : K → T} {past : K → Reader T C} {other : Reader T C} (its : IsTest test sign) (counted : (k : K) (n : ℕ) → next (n + start) (sign k) ≡ n + middle k) (rule : (k : K) → Rule next room (middle k) end spelled (λ r. front (sign k ∷ r)) (past k)) (others : Rule next room start end spelled front other) where
  sound_at : (o : Option K) (x : T) → test x ≡ o → (ts : List T) (c : C) (rest : List T) → on_some o (λ k. past k ts) (other (x ∷ ts)) ≡ Ok (c, rest) → front (x ∷ ts) ≡ spelled c ++ rest
  sound_at None x q ts c rest h = others.sound (x ∷ ts) c rest h
  sound_at (Some k) x q ts c rest h = ap (λ y. front (y ∷ ts)) (its.only x k q) ∙ (rule k).sound ts c rest h

  started_at : (o : Option K) (x : T) → test x ≡ o → (ts rest : List T) → on_some o (λ k. past k ts) (other (x ∷ ts)) ≡ Err (At rest) → (used : List T) × (x ∷ ts ≡ used ++ rest) × (c : C) × (tail : List T) × (spelled c ≡ front (used ++ tail))
  started_at None x q ts rest h = others.started (x ∷ ts) rest h
  started_at (Some k) x q ts rest h =
      let m = (rule k).started ts rest h in
      (sign k ∷ m.0, ap (λ y. y ∷ ts) (its.only x k q) ∙ ap (λ l. sign k ∷ l) m.1, m.2, m.3, m.4)

  shallow_at : (o : Option K) (x : T) → test x ≡ o → (k : ℕ) (ts : List T) → Within next (k + room) (k + start) (x ∷ ts) → Keeps next (k + room) (k + end) (on_some o (λ k. past k ts) (other (x ∷ ts)))
  shallow_at None x q k ts w = others.shallow k (x ∷ ts) w
  shallow_at (Some v) x q k ts w = (rule v).shallow k ts (subst (λ n. Within next (k + room) n ts) (ap (λ y. next (k + start) y) (its.only x v q) ∙ counted v k) w.1)

  either_sound : (ts : List T) (c : C) (rest : List T) → either test past other ts ≡ Ok (c, rest) → front ts ≡ spelled c ++ rest
  unfolding either
  either_sound [] c rest h = others.sound [] c rest h
  either_sound (x ∷ ts) c rest h = sound_at (test x) x refl ts c rest h

  either_started : (ts rest : List T) → either test past other ts ≡ Err (At rest) → (used : List T) × (ts ≡ used ++ rest) × (c : C) × (tail : List T) × (spelled c ≡ front (used ++ tail))
  unfolding either
  either_started [] rest h = others.started [] rest h
  either_started (x ∷ ts) rest h = started_at (test x) x refl ts rest h

  either_shallow : (k : ℕ) (ts : List T) → Within next (k + room) (k + start) ts → Keeps next (k + room) (k + end) (either test past other ts)
  unfolding either
  either_shallow k [] w = others.shallow k [] w
  either_shallow k (x ∷ ts) w = shallow_at (test x) x refl k ts w

  pub either_rule : Rule next room start end spelled front (either test past other)
  either_rule = record {
    reader = is_either (λ x k q. (rule k).reader) others.reader;
    sound = either_sound;
    started = either_started;
    can = others.can;
    shallow = either_shallow;
  }

-- past a token, and nothing else; `sample` is one that passes
pub on_rule : {T C K : Type 0} {next : ℕ → T → ℕ} {room start end : ℕ} {middle : K → ℕ} {spelled : C → List T} {front : List T → List T} {test : T → Option K} {sign : K → T} {past : K → Reader T C} (sample : K) (its : IsTest test sign) (counted : (k : K) (n : ℕ) → next (n + start) (sign k) ≡ n + middle k)
    → ((k : K) → Rule next room (middle k) end spelled (λ r. front (sign k ∷ r)) (past k)) → Rule next room start end spelled front (either test past fail)
on_rule {sign = sign} sample its counted rule = either_rule its counted rule (fail_rule (let c = (rule sample).can in (c.0, sign sample ∷ c.1, c.2)))

-- ---- Again and again

module _ {T A K : Type 0} {next : ℕ → T → ℕ} {room at : ℕ} {middle : K → ℕ} {spelled : A → List T} {test : T → Option K} {sign : K → T} {turn : K → A → Reader T A} (its : IsTest test sign) (counted : (k : K) (n : ℕ) → next (n + at) (sign k) ≡ n + middle k) (rule : (k : K) (left : A) → Rule next room (middle k) at spelled (λ r. spelled left ++ sign k ∷ r) (turn k left)) where
  many_rule : (n : ℕ) (left : A) → Rule next room at at spelled (λ r. spelled left ++ r) (many test turn n left)
  unfolding many
  many_rule zero left = give_rule left (λ r. refl)
  many_rule (suc n) left = either_rule its counted (λ k. then_rule (λ x y. append_assoc (spelled left) (sign k ∷ x) y) (rule k left) (λ a. many_rule n a)) (give_rule left (λ r. refl))

  pub all_rule : (left : A) → Rule next room at at spelled (λ r. spelled left ++ r) (all test turn left)
  unfolding all
  all_rule left = record {
    reader = is_all (λ x k q a. (rule k a).reader) left;
    sound = λ ts c rest h. (many_rule (length ts) left).sound ts c rest h;
    started = λ ts rest h. (many_rule (length ts) left).started ts rest h;
    can = (many_rule 0 left).can;
    shallow = λ k ts w. (many_rule (length ts) left).shallow k ts w;
  }

-- ---- Until the whole is read

abbrev pub turn_spelled : {T A C : Type 0} → (A → List T) → (C → List T) → Turn A C → List T
turn_spelled part spelled (going a) = part a
turn_spelled part spelled (done c) = spelled c

and_on_rule : {T A C : Type 0} {next : ℕ → T → ℕ} {room at : ℕ} (part : A → List T) (spelled : C → List T) {again : A → Reader T C} → ((a : A) → Rule next room at at spelled (λ r. part a ++ r) (again a)) → (s : Turn A C) → Rule next room at at spelled (λ r. turn_spelled part spelled s ++ r) (and_on again s)
and_on_rule part spelled h (going a) = h a
and_on_rule part spelled h (done c) = give_rule c (λ r. refl)

module _ {T A C K : Type 0} {next : ℕ → T → ℕ} {room at : ℕ} {middle : K → ℕ} {part : A → List T} {spelled : C → List T} {test : T → Option K} {sign : K → T} {turn : K → A → Reader T (Turn A C)} (its : IsTest test sign) (counted : (k : K) (n : ℕ) → next (n + at) (sign k) ≡ n + middle k) (rule : (k : K) (left : A) → Rule next room (middle k) at (turn_spelled part spelled) (λ r. part left ++ sign k ∷ r) (turn k left)) (can : (left : A) → (c : C) × (tail : List T) × (spelled c ≡ part left ++ tail)) where
  tries_rule : (n : ℕ) (left : A) → Rule next room at at spelled (λ r. part left ++ r) (tries test turn n left)
  unfolding tries
  tries_rule zero left = fail_rule (can left)
  tries_rule (suc n) left = either_rule its counted (λ k. then_rule (λ x y. append_assoc (part left) (sign k ∷ x) y) (rule k left) (and_on_rule part spelled (tries_rule n))) (fail_rule (can left))

  pub until_rule : (left : A) → Rule next room at at spelled (λ r. part left ++ r) (until test turn left)
  unfolding until
  until_rule left = record {
    reader = is_until (λ x k q a. (rule k a).reader) left;
    sound = λ ts c rest h. (tries_rule (length ts) left).sound ts c rest h;
    started = λ ts rest h. (tries_rule (length ts) left).started ts rest h;
    can = can left;
    shallow = λ k ts w. (tries_rule (length ts) left).shallow k ts w;
  }

-- ---- The end of the text, and brackets

module _ {T C : Type 0} (next : ℕ → T → ℕ) (room at : ℕ) (spelled : C → List T) (front : List T → List T) (c : C) (e : front [] ≡ spelled c) where
  finished_sound : (ts : List T) (b : C) (rest : List T) → finished c ts ≡ Ok (b, rest) → front ts ≡ spelled b ++ rest
  unfolding finished
  finished_sound [] b rest h =
      let s = same_ok c [] b rest h in
      e ∙ sym (append-nil (spelled c)) ∙ (λ i. spelled (s.0 i) ++ s.1 i)
  finished_sound (x ∷ ts) b rest h = absurd (cc)

  finished_started : (ts rest : List T) → finished c ts ≡ Err (At rest) → (used : List T) × (ts ≡ used ++ rest) × (b : C) × (tail : List T) × (spelled b ≡ front (used ++ tail))
  unfolding finished
  finished_started [] rest h = absurd (cc)
  finished_started (x ∷ ts) rest h = ([], same_at {T = T} {A = C} (x ∷ ts) rest h, c, [], sym e)

  finished_shallow : (k : ℕ) (ts : List T) → Within next (k + room) (k + at) ts → Keeps next (k + room) (k + at) (finished c ts)
  unfolding finished
  finished_shallow k [] w = w
  finished_shallow k (x ∷ ts) w = tt

  finished_is : Rule next room at at spelled front (finished c)
  finished_is = record {
    reader = is_finished c;
    sound = finished_sound;
    started = finished_started;
    can = (c, [], sym e);
    shallow = finished_shallow;
  }

pub finished_rule : {T C : Type 0} {next : ℕ → T → ℕ} {room at : ℕ} {spelled : C → List T} {front : List T → List T} (c : C) → front [] ≡ spelled c → Rule next room at at spelled front (finished c)
finished_rule {T} {C} {next} {room} {at} {spelled} {front} c e = finished_is next room at spelled front c e

-- one bracket more is open, and may be
pub raise : {T C : Type 0} {next : ℕ → T → ℕ} {room start end : ℕ} {spelled : C → List T} {front : List T → List T} {p : Reader T C} → Rule next room start end spelled front p → Rule next (suc room) (suc start) (suc end) spelled front p
raise {T} {C} {next} {room} {start} {end} {spelled} {front} {p} rule = record {
  reader = rule.reader;
  sound = rule.sound;
  started = rule.started;
  can = rule.can;
  shallow = λ k ts w.
      let e : (n : ℕ) → suc k + n ≡ k + suc n = λ n. omega arith in
      let before : Within next (suc k + room) (suc k + start) ts = subst (λ l. Within next l (suc k + start) ts) (sym (e room)) (subst (λ n. Within next (k + suc room) n ts) (sym (e start)) w) in
      let behind : Keeps next (suc k + room) (suc k + end) (p ts) = rule.shallow (suc k) ts before in
      subst (λ l. Keeps next l (k + suc end) (p ts)) (e room) (subst (λ n. Keeps next (suc k + room) n (p ts)) (e end) behind);
}
