-- Reading a form is the reading of an expression among the tokens before the first name that may not stand there.
use Rattle.std.proofs.Common.{◌≡◌, ℕ, ◌+◌, Bool, true, false, ◌||◌, not, List, [], ◌∷◌, ◌++◌, Option, Some, None, is_some, Ok, Err, refl, sym, ap, ◌∙◌, subst, codes, IsTrue, ◌⊎◌, inl, inr, cond, arith, append_assoc}
use Rattle.std.proofs.lemmas.Bool.{and_parts, and_from}
use Rattle.affc_grammar.specs.Grammar as g
use Rattle.affc_grammar.specs.Grammar.{Symbol, number, IxText, ix_symbols}
use Rattle.affc_grammar.specs.Reader.{At, Deep, Read, Reader, give, fail, after, IsReader}
use Rattle.affc_grammar.specs.Reading.{read_ix, holding}
use Rattle.affc_grammar.proofs.Closed.{is_give, is_fail, is_after, then_ok, then_at, same_ok, same_at, same_front}
use Rattle.affc_grammar.proofs.Rule.{Rule, within_now}
use Rattle.affc_grammar.proofs.Rules.{ix_rule}
use Rattle.affc_grammar.proofs.Tests.{holding_is}
use Rattle.affc_schedtext.specs.Outline.{Scope}
use Rattle.affc_schedtext.specs.Grammar.{is_name, is_seen, all_seen, FormText, form_symbols}
use Rattle.affc_schedtext.specs.Reading.{seen_front, unseen_rest, followed_by, with_seen, read_form}
use Rattle.affc_schedtext.proofs.Cuts.{nameless, Completes, ix_completes}

-- nothing is counted
abbrev pub uncounted : ℕ → Symbol → ℕ
uncounted n s = n

-- a reader of a rule, of whose brackets nothing is said
abbrev pub Exact : {C : Type 0} → (C → List Symbol) → (List Symbol → List Symbol) → Reader Symbol C → Type 0
Exact spelled front p = Rule uncounted 0 1 1 spelled front p

-- ---- The tokens before an unseen name

pub front_and_rest : (scope : Scope) (ts : List Symbol) → ts ≡ seen_front scope ts ++ unseen_rest scope ts
front_and_rest scope [] = refl
front_and_rest scope (t ∷ ts) = at (front_and_rest scope ts) (is_seen scope t)
  where
    at : ts ≡ seen_front scope ts ++ unseen_rest scope ts → (b : Bool) → t ∷ ts ≡ cond b (t ∷ seen_front scope ts) [] ++ cond b (unseen_rest scope ts) (t ∷ ts)
    at e true = ap (λ l. t ∷ l) e
    at e false = refl

pub front_seen : (scope : Scope) (ts : List Symbol) → all_seen scope (seen_front scope ts) ≡ true
front_seen scope [] = refl
front_seen scope (t ∷ ts) = at (front_seen scope ts) (is_seen scope t) refl
  where
    at : all_seen scope (seen_front scope ts) ≡ true → (b : Bool) → is_seen scope t ≡ b → all_seen scope (cond b (t ∷ seen_front scope ts) []) ≡ true
    at h true e = and_from (is_seen scope t) (all_seen scope (seen_front scope ts)) e h
    at h false e = refl

pub seen_before : (scope : Scope) (xs ys : List Symbol) → all_seen scope (xs ++ ys) ≡ true → all_seen scope xs ≡ true
seen_before scope [] ys e = refl
seen_before scope (x ∷ xs) ys e =
    let h = and_parts (is_seen scope x) (all_seen scope (xs ++ ys)) e in
    and_from (is_seen scope x) (all_seen scope xs) h.0 (seen_before scope xs ys h.1)

pub seen_append : (scope : Scope) (xs ys : List Symbol) → all_seen scope xs ≡ true → all_seen scope ys ≡ true → all_seen scope (xs ++ ys) ≡ true
seen_append scope [] ys p q = q
seen_append scope (x ∷ xs) ys p q =
    let h = and_parts (is_seen scope x) (all_seen scope xs) p in
    and_from (is_seen scope x) (all_seen scope (xs ++ ys)) h.0 (seen_append scope xs ys h.1 q)

pub nameless_seen : (scope : Scope) (xs : List Symbol) → nameless xs ≡ true → all_seen scope xs ≡ true
nameless_seen scope [] e = refl
nameless_seen scope (x ∷ xs) e =
    let h = and_parts (not (is_name x)) (nameless xs) e in
    and_from (is_seen scope x) (all_seen scope xs) (ap (λ b. b || is_some (scope x.bytes)) h.0) (nameless_seen scope xs h.1)

-- an unseen name stands among these, or is the next, or all is seen
data Where (scope : Scope) (xs : List Symbol) (t : Symbol) : Type 0 where
  here : (front others : List Symbol) → ((ys : List Symbol) → seen_front scope (xs ++ t ∷ ys) ≡ front) → ((ys : List Symbol) → unseen_rest scope (xs ++ t ∷ ys) ≡ others ++ t ∷ ys) → Where scope xs t
  later : ((ys : List Symbol) → seen_front scope (xs ++ t ∷ ys) ≡ xs ++ t ∷ seen_front scope ys) → ((ys : List Symbol) → unseen_rest scope (xs ++ t ∷ ys) ≡ unseen_rest scope ys) → Where scope xs t

where_is : (scope : Scope) (xs : List Symbol) (t : Symbol) → Where scope xs t
where_is scope [] t = at (is_seen scope t) refl
  where
    at : (b : Bool) → is_seen scope t ≡ b → Where scope [] t
    at true e = later (λ ys. ap (λ b. cond b (t ∷ seen_front scope ys) []) e) (λ ys. ap (λ b. cond b (unseen_rest scope ys) (t ∷ ys)) e)
    at false e = here [] [] (λ ys. ap (λ b. cond b (t ∷ seen_front scope ys) []) e) (λ ys. ap (λ b. cond b (unseen_rest scope ys) (t ∷ ys)) e)
where_is scope (x ∷ xs) t = at (is_seen scope x) refl (where_is scope xs t)
  where
    at : (b : Bool) → is_seen scope x ≡ b → Where scope xs t → Where scope (x ∷ xs) t
    at false e w = here [] (x ∷ xs) (λ ys. ap (λ b. cond b (x ∷ seen_front scope (xs ++ t ∷ ys)) []) e) (λ ys. ap (λ b. cond b (unseen_rest scope (xs ++ t ∷ ys)) (x ∷ (xs ++ t ∷ ys))) e)
    at true e (here front others p q) = here (x ∷ front) others (λ ys. ap (λ b. cond b (x ∷ seen_front scope (xs ++ t ∷ ys)) []) e ∙ ap (λ l. x ∷ l) (p ys)) (λ ys. ap (λ b. cond b (unseen_rest scope (xs ++ t ∷ ys)) (x ∷ (xs ++ t ∷ ys))) e ∙ q ys)
    at true e (later p q) = later (λ ys. ap (λ b. cond b (x ∷ seen_front scope (xs ++ t ∷ ys)) []) e ∙ ap (λ l. x ∷ l) (p ys)) (λ ys. ap (λ b. cond b (unseen_rest scope (xs ++ t ∷ ys)) (x ∷ (xs ++ t ∷ ys))) e ∙ q ys)

-- ---- What is left, with the tokens behind it

followed_ok : {A : Type 0} (others : List Symbol) (r : Read Symbol A) (a : A) (rest : List Symbol) → followed_by others r ≡ Ok (a, rest) → (us : List Symbol) × (r ≡ Ok (a, us)) × (rest ≡ us ++ others)
followed_ok {A} others (Ok x) a rest e =
    let s = same_ok x.0 (x.1 ++ others) a rest e in
    (x.1, (λ i. Ok (s.0 i, x.1)), sym s.1)
followed_ok others (Err (At ts)) a rest e = absurd (cc)
followed_ok others (Err Deep) a rest e = absurd (cc)

followed_at : {A : Type 0} (others : List Symbol) (r : Read Symbol A) (rest : List Symbol) → followed_by others r ≡ Err (At rest) → (us : List Symbol) × (r ≡ Err (At us)) × (rest ≡ us ++ others)
followed_at others (Ok x) rest e = absurd (cc)
followed_at {A} others (Err (At ts)) rest e = (ts, refl, sym (same_at {T = Symbol} {A = A} (ts ++ others) rest e))
followed_at others (Err Deep) rest e = absurd (cc)

-- ---- The reader

module _ (room : ℕ) (scope : Scope) where
  abbrev pub inner : Reader Symbol (FormText scope)
  inner = after (read_ix false room) (λ a. with_seen scope a (holding (all_seen scope (ix_symbols a))))

  seen_reader : (a : IxText false) (o : Option (IsTrue (all_seen scope (ix_symbols a)))) → IsReader (with_seen scope a o)
  seen_reader a None = is_fail
  seen_reader a (Some h) = is_give (record { written = a; seen = h })

  inner_reader : IsReader inner
  inner_reader = is_after (ix_rule false room).reader (λ a. seen_reader a (holding (all_seen scope (ix_symbols a))))

  pub opened : (ts : List Symbol) → read_form room scope ts ≡ followed_by (unseen_rest scope ts) (inner (seen_front scope ts))
  unfolding read_form
  opened ts = refl

  -- with an expression whose names are all seen the form is read
  given_at : (a : IxText false) (o : Option (IsTrue (all_seen scope (ix_symbols a)))) (us : List Symbol) (c : FormText scope) (rest : List Symbol) → with_seen scope a o us ≡ Ok (c, rest) → (c.written ≡ a) × (us ≡ rest)
  unfolding give fail
  given_at a None us c rest e = absurd (cc)
  given_at a (Some h) us c rest e =
      let s = same_ok (record { written = a; seen = h }) us c rest e in
      (λ i. (sym s.0 i).written, s.1)

  never_stops : (a : IxText false) (o : Option (IsTrue (all_seen scope (ix_symbols a)))) (h : IsTrue (all_seen scope (ix_symbols a))) → o ≡ Some h → (us rest : List Symbol) → with_seen scope a o us ≡ Err (At rest) → ⊥
  unfolding give fail
  never_stops a None h e us rest q = absurd (cc)
  never_stops a (Some k) h e us rest q = absurd (cc)

  inner_sound : (ts : List Symbol) (c : FormText scope) (us : List Symbol) → inner ts ≡ Ok (c, us) → ts ≡ form_symbols c ++ us
  unfolding after
  inner_sound ts c us e =
      let k = then_ok (read_ix false room ts) (λ a. with_seen scope a (holding (all_seen scope (ix_symbols a)))) (c, us) e in
      let m = given_at k.0 (holding (all_seen scope (ix_symbols k.0))) k.1 c us k.3 in
      (ix_rule false room).sound ts k.0 k.1 k.2 ∙ (λ i. ix_symbols (sym m.0 i) ++ m.1 i)

  pub form_sound : (ts : List Symbol) (c : FormText scope) (rest : List Symbol) → read_form room scope ts ≡ Ok (c, rest) → ts ≡ form_symbols c ++ rest
  form_sound ts c rest e =
      let k = followed_ok (unseen_rest scope ts) (inner (seen_front scope ts)) c rest (sym (opened ts) ∙ e) in
      front_and_rest scope ts ∙ ap (λ l. l ++ unseen_rest scope ts) (inner_sound (seen_front scope ts) c k.0 k.1) ∙ append_assoc (form_symbols c) k.0 (unseen_rest scope ts) ∙ ap (λ l. form_symbols c ++ l) (sym k.2)

  form_of : (used : List Symbol) → all_seen scope used ≡ true → (ts us : List Symbol) → ts ≡ used ++ us → (rest : List Symbol) → Completes (ix_symbols {prelude = false}) used → (c : FormText scope) × (tail : List Symbol) × (form_symbols c ≡ used ++ tail)
  form_of used h ts us e rest c = (record { written = c.whole; seen = subst (λ l. IsTrue (all_seen scope l)) (sym c.is) (seen_append scope used c.more h (nameless_seen scope c.more c.without)) }, c.more, c.is)

  pub form_started : (ts rest : List Symbol) → read_form room scope ts ≡ Err (At rest) → (used : List Symbol) × (ts ≡ used ++ rest) × (c : FormText scope) × (tail : List Symbol) × (form_symbols c ≡ used ++ tail)
  unfolding after
  form_started ts rest e =
      let k = followed_at (unseen_rest scope ts) (inner (seen_front scope ts)) rest (sym (opened ts) ∙ e) in
      at k.0 k.2 (then_at (read_ix false room (seen_front scope ts)) (λ a. with_seen scope a (holding (all_seen scope (ix_symbols a)))) k.0 k.1)
    where
      at : (us : List Symbol) → rest ≡ us ++ unseen_rest scope ts
          → (read_ix false room (seen_front scope ts) ≡ Err (At us)) ⊎ ((a : IxText false) × (vs : List Symbol) × (read_ix false room (seen_front scope ts) ≡ Ok (a, vs)) × (with_seen scope a (holding (all_seen scope (ix_symbols a))) vs ≡ Err (At us)))
          → (used : List Symbol) × (ts ≡ used ++ rest) × (c : FormText scope) × (tail : List Symbol) × (form_symbols c ≡ used ++ tail)
      at us q (inl h) =
          let m = (ix_rule false room).started (seen_front scope ts) us h in
          let f = form_of m.0 (seen_before scope m.0 us (subst (λ l. all_seen scope l ≡ true) m.1 (front_seen scope ts))) (seen_front scope ts) us m.1 rest (ix_completes m.2 m.0 m.3 m.4) in
          (m.0, front_and_rest scope ts ∙ ap (λ l. l ++ unseen_rest scope ts) m.1 ∙ append_assoc m.0 us (unseen_rest scope ts) ∙ ap (λ l. m.0 ++ l) (sym q), f.0, f.1, f.2)
      at us q (inr h) =
          let whole = (ix_rule false room).sound (seen_front scope ts) h.0 h.1 h.2 in
          let seen : IsTrue (all_seen scope (ix_symbols h.0)) = seen_before scope (ix_symbols h.0) h.1 (subst (λ l. all_seen scope l ≡ true) whole (front_seen scope ts)) in
          absurd (never_stops h.0 (holding (all_seen scope (ix_symbols h.0))) seen (holding_is (all_seen scope (ix_symbols h.0)) seen) h.1 us h.3)

  pub form_reader : IsReader (read_form room scope)
  form_reader = record {
    ok_left = λ ts a rest e. (form_symbols a, form_sound ts a rest e);
    at_left = λ ts rest e. let m = form_started ts rest e in (m.0, m.1);
    ok_same = λ xs t ys zs w a e. ok_where xs t ys zs w a e (where_is scope xs t);
    at_same = λ xs t ys zs w e. at_where xs t ys zs w e (where_is scope xs t);
  }
    where
      reopened : (ts front others : List Symbol) → seen_front scope ts ≡ front → unseen_rest scope ts ≡ others → read_form room scope ts ≡ followed_by others (inner front)
      reopened ts front others p q = opened ts ∙ (λ i. followed_by (q i) (inner (p i)))

      cancelled : (us w ys : List Symbol) (t : Symbol) → w ++ t ∷ ys ≡ us ++ unseen_rest scope ys → us ≡ w ++ t ∷ seen_front scope ys
      cancelled us w ys t e = sym (same_front (w ++ t ∷ seen_front scope ys) us (unseen_rest scope ys) (append_assoc w (t ∷ seen_front scope ys) (unseen_rest scope ys) ∙ ap (λ l. w ++ t ∷ l) (sym (front_and_rest scope ys)) ∙ e))

      joined : (w zs : List Symbol) (t : Symbol) → (w ++ t ∷ seen_front scope zs) ++ unseen_rest scope zs ≡ w ++ t ∷ zs
      joined w zs t = append_assoc w (t ∷ seen_front scope zs) (unseen_rest scope zs) ∙ ap (λ l. w ++ t ∷ l) (sym (front_and_rest scope zs))

      ok_where : (xs : List Symbol) (t : Symbol) (ys zs w : List Symbol) (a : FormText scope) → read_form room scope (xs ++ t ∷ ys) ≡ Ok (a, w ++ t ∷ ys) → Where scope xs t → read_form room scope (xs ++ t ∷ zs) ≡ Ok (a, w ++ t ∷ zs)
      ok_where xs t ys zs w a e (here front others p q) =
          let k = followed_ok (others ++ t ∷ ys) (inner front) a (w ++ t ∷ ys) (sym (reopened (xs ++ t ∷ ys) front (others ++ t ∷ ys) (p ys) (q ys)) ∙ e) in
          let same : w ≡ k.0 ++ others = same_front w (k.0 ++ others) (t ∷ ys) (k.2 ∙ sym (append_assoc k.0 others (t ∷ ys))) in
          reopened (xs ++ t ∷ zs) front (others ++ t ∷ zs) (p zs) (q zs) ∙ ap (followed_by (others ++ t ∷ zs)) k.1 ∙ ap (λ l. Ok (a, l)) (sym (append_assoc k.0 others (t ∷ zs)) ∙ ap (λ l. l ++ t ∷ zs) (sym same))
      ok_where xs t ys zs w a e (later p q) =
          let k = followed_ok (unseen_rest scope ys) (inner (xs ++ t ∷ seen_front scope ys)) a (w ++ t ∷ ys) (sym (reopened (xs ++ t ∷ ys) (xs ++ t ∷ seen_front scope ys) (unseen_rest scope ys) (p ys) (q ys)) ∙ e) in
          let other = inner_reader.ok_same xs t (seen_front scope ys) (seen_front scope zs) w a (k.1 ∙ ap (λ l. Ok (a, l)) (cancelled k.0 w ys t k.2)) in
          reopened (xs ++ t ∷ zs) (xs ++ t ∷ seen_front scope zs) (unseen_rest scope zs) (p zs) (q zs) ∙ ap (followed_by (unseen_rest scope zs)) other ∙ ap (λ l. Ok (a, l)) (joined w zs t)

      at_where : (xs : List Symbol) (t : Symbol) (ys zs w : List Symbol) → read_form room scope (xs ++ t ∷ ys) ≡ Err (At (w ++ t ∷ ys)) → Where scope xs t → read_form room scope (xs ++ t ∷ zs) ≡ Err (At (w ++ t ∷ zs))
      at_where xs t ys zs w e (here front others p q) =
          let k = followed_at (others ++ t ∷ ys) (inner front) (w ++ t ∷ ys) (sym (reopened (xs ++ t ∷ ys) front (others ++ t ∷ ys) (p ys) (q ys)) ∙ e) in
          let same : w ≡ k.0 ++ others = same_front w (k.0 ++ others) (t ∷ ys) (k.2 ∙ sym (append_assoc k.0 others (t ∷ ys))) in
          reopened (xs ++ t ∷ zs) front (others ++ t ∷ zs) (p zs) (q zs) ∙ ap (followed_by (others ++ t ∷ zs)) k.1 ∙ ap (λ l. Err (At l)) (sym (append_assoc k.0 others (t ∷ zs)) ∙ ap (λ l. l ++ t ∷ zs) (sym same))
      at_where xs t ys zs w e (later p q) =
          let k = followed_at (unseen_rest scope ys) (inner (xs ++ t ∷ seen_front scope ys)) (w ++ t ∷ ys) (sym (reopened (xs ++ t ∷ ys) (xs ++ t ∷ seen_front scope ys) (unseen_rest scope ys) (p ys) (q ys)) ∙ e) in
          let other = inner_reader.at_same xs t (seen_front scope ys) (seen_front scope zs) w (k.1 ∙ ap (λ l. Err (At l)) (cancelled k.0 w ys t k.2)) in
          reopened (xs ++ t ∷ zs) (xs ++ t ∷ seen_front scope zs) (unseen_rest scope zs) (p zs) (q zs) ∙ ap (followed_by (unseen_rest scope zs)) other ∙ ap (λ l. Err (At l)) (joined w zs t)

  abbrev pub zero_form : FormText scope
  zero_form = record { written = g.term (g.factor (g.atom (g.literal (codes "0")))); seen = refl }

  pub form_rule : Exact form_symbols (λ r. r) (read_form room scope)
  form_rule = record {
    reader = form_reader;
    sound = form_sound;
    started = form_started;
    can = (zero_form, number (codes "0") ∷ [], refl);
    shallow = λ k ts w. absurd (let h = within_now uncounted (k + 0) (k + 1) ts w in omega arith);
  }
