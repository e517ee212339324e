-- One store more.
use Rattle.std.proofs.Common.{◌≡◌, ◌≢◌, ℕ, zero, suc, ◌+◌, ◌<◌, ◌≤◌, max, Bool, true, false, true≢false, nat_eq, List, [], ◌∷◌, ◌++◌, length, get_or, set, Option, Some, None, refl, sym, ap, subst, ◌∙◌, ◌⊎◌, inl, inr, arith}
use Rattle.std.specs.Prelude.{slice_get}
use Rattle.std.proofs.lemmas.Bool.{eqb-true, eq-eqb}
use Rattle.std.proofs.lemmas.List.{get_or-set_same, get_or-set_other, length-set}
use Rattle.std.proofs.lemmas.Option.{same_Some, none-some, slice_get_within}
use Rattle.affc_floor.specs.declared.life.Stored.{Stored}
use Rattle.affc_floor.specs.declared.life.Life.{Life}
use Rattle.affc_floor.specs.Lives.{IsOpen, HasOpen, AreApart, AreLives, span_from, its_life, IsPlaced, IsWantedBy, AreSoFar}

-- ---- numbers and lists

three : (a b : ℕ) → (a < b) ⊎ (b ≤ a)
three zero zero = inr (omega arith)
three zero (suc b) = inl (omega arith)
three (suc a) zero = inr (omega arith)
three (suc a) (suc b) = elim (three a b) [ inl h ↦ inl (omega arith) | inr h ↦ inr (omega arith) ]

eq_cases : (a b : ℕ) → (a ≡ b) ⊎ (a ≢ b)
eq_cases a b = by_test (nat_eq a b) refl
  where
    by_test : (t : Bool) → nat_eq a b ≡ t → (a ≡ b) ⊎ (a ≢ b)
    by_test true e = inl (eqb-true a b e)
    by_test false e = inr (λ q. true≢false (sym (eq-eqb a b q) ∙ e))

last_or_before : (a n : ℕ) → a < n + 1 → (a < n) ⊎ (a ≡ n)
last_or_before a n h = elim (three a n) [ inl l ↦ inl l | inr g ↦ inr (omega arith) ]

in_front : {A : Type 0} (xs ys : List A) (k : ℕ) (x : A) → slice_get xs k ≡ Some x → slice_get (xs ++ ys) k ≡ Some x
in_front [] ys k x e = absurd (none-some x e)
in_front (z ∷ xs) ys zero x e = e
in_front (z ∷ xs) ys (suc k) x e = in_front xs ys k x e

at_end : {A : Type 0} (xs : List A) (y : A) → slice_get (xs ++ y ∷ []) (length xs) ≡ Some y
at_end [] y = refl
at_end (x ∷ xs) y = at_end xs y

front_or_end : {A : Type 0} (xs : List A) (y : A) (k : ℕ) (x : A) → slice_get (xs ++ y ∷ []) k ≡ Some x → (slice_get xs k ≡ Some x) ⊎ ((k ≡ length xs) × (x ≡ y))
front_or_end [] y zero x e = inr (refl, sym (same_Some y x e))
front_or_end [] y (suc k) x e = absurd (none-some x e)
front_or_end (z ∷ xs) y zero x e = inl e
front_or_end (z ∷ xs) y (suc k) x e = elim (front_or_end xs y k x e) [ inl h ↦ inl h | inr h ↦ inr (ap suc h.0, h.1) ]

-- ---- the state after one more instant

by_more : (n : ℕ) (stores : List (Option Stored)) (i slot : ℕ) → IsWantedBy n stores i slot → IsWantedBy (n + 1) stores i slot
by_more n stores i slot w = record { wanted = w.wanted; before = let h = w.before in omega arith }

module _ (slots at : ℕ) (stores : List (Option Stored)) (covered : List ℕ) (found : List Life) (so : AreSoFar slots at stores covered found) where
  -- none is stored
  pub none_stored : slice_get stores at ≡ Some None → AreSoFar slots (at + 1) stores covered found
  none_stored none = record {
    long = so.long;
    live = λ i slot o. by_more at stores i slot (so.live i slot o);
    all = λ i slot w. elim (last_or_before w.wanted.at at w.before) [
      | inl h ↦ so.all i slot (record { wanted = w.wanted; before = h })
      | inr e ↦ absurd (none-some w.wanted.store (same_Some None (Some w.wanted.store) (sym none ∙ ap (slice_get stores) (sym e) ∙ w.wanted.there)))
    ];
    ahead = λ i slot h l. so.ahead i slot (omega arith) l;
    apart = so.apart;
    some = so.some;
  }

  module _ (s : Stored) (there : slice_get stores at ≡ Some (Some s)) (low : s.slot < slots) where
    abbrev before : ℕ
    before = get_or covered s.slot 0

    abbrev life : Life
    life = its_life at (get_or covered s.slot 0) s

    same_store : (w : Stored) (k : ℕ) → k ≡ at → slice_get stores k ≡ Some (Some w) → w ≡ s
    same_store w k e f = same_Some w s (same_Some (Some w) (Some s) (sym f ∙ ap (slice_get stores) e ∙ there))

    -- a wanted slot is of a store before, or is this one's
    earlier_or_now : (i slot : ℕ) → IsWantedBy (at + 1) stores i slot → IsWantedBy at stores i slot ⊎ ((slot ≡ s.slot) × (at ≤ i) × (i < s.until))
    earlier_or_now i slot w = elim (last_or_before w.wanted.at at w.before) [
      | inl h ↦ inl (record { wanted = w.wanted; before = h })
      | inr e ↦ (let q : w.wanted.store ≡ s = same_store w.wanted.store w.wanted.at e w.wanted.there in
          inr (sym w.wanted.its_slot ∙ ap (λ (z : Stored). z.slot) q, subst (λ k. k ≤ i) e w.wanted.since, subst (λ (z : Stored). i < z.until) q w.wanted.until))
    ]

    covered_already : (i : ℕ) → s.until ≤ span_from at (get_or covered s.slot 0) → at ≤ i → i < s.until → i < get_or covered s.slot 0
    covered_already i h g l = by_numbers (get_or covered s.slot 0) h
      where
        by_numbers : (b : ℕ) → s.until ≤ max at b → i < b
        by_numbers b h = omega arith

    -- it is covered already
    pub not_added : s.until ≤ span_from at (get_or covered s.slot 0) → AreSoFar slots (at + 1) stores covered found
    not_added h = record {
      long = so.long;
      live = λ i slot o. by_more at stores i slot (so.live i slot o);
      all = λ i slot w. elim (earlier_or_now i slot w) [
        | inl v ↦ so.all i slot v
        | inr n ↦ subst (HasOpen found i) (sym n.0) (so.ahead i s.slot n.1 (covered_already i h n.1 n.2))
      ];
      ahead = λ i slot g l. so.ahead i slot (omega arith) l;
      apart = so.apart;
      some = so.some;
    }

    -- ---- a span is added

    module _ (h : span_from at (get_or covered s.slot 0) < s.until) where
      abbrev more : List Life
      more = found ++ its_life at (get_or covered s.slot 0) s ∷ []

      abbrev farther : List ℕ
      farther = set covered s.slot s.until

      open_still : (i slot : ℕ) → HasOpen found i slot → HasOpen (found ++ its_life at (get_or covered s.slot 0) s ∷ []) i slot
      open_still i slot o = record { number = o.number; life = o.life; there = in_front found (its_life at (get_or covered s.slot 0) s ∷ []) o.number o.life o.there; its_slot = o.its_slot; is_open = o.is_open }

      upper : (i b : ℕ) → at ≤ i → b ≤ i → max at b ≤ i
      upper i b g l = omega arith

      open_now : (i : ℕ) → at ≤ i → get_or covered s.slot 0 ≤ i → i < s.until → HasOpen (found ++ its_life at (get_or covered s.slot 0) s ∷ []) i s.slot
      open_now i g l u = record {
        number = length found;
        life = its_life at (get_or covered s.slot 0) s;
        there = at_end found (its_life at (get_or covered s.slot 0) s);
        its_slot = refl;
        is_open = (upper i (get_or covered s.slot 0) g l, u);
      }

      -- from now on up to its end
      open_on : (i : ℕ) → at ≤ i → i < s.until → HasOpen (found ++ its_life at (get_or covered s.slot 0) s ∷ []) i s.slot
      open_on i g u = elim (three i (get_or covered s.slot 0)) [
        | inl l ↦ open_still i s.slot (so.ahead i s.slot g l)
        | inr l ↦ open_now i g l u
      ]

      here : get_or (set covered s.slot s.until) s.slot 0 ≡ s.until
      here = get_or-set_same covered s.slot s.until 0 (subst (λ n. s.slot < n) (sym so.long) low)

      elsewhere : (slot : ℕ) → slot ≢ s.slot → get_or (set covered s.slot s.until) slot 0 ≡ get_or covered slot 0
      elsewhere slot n = get_or-set_other covered s.slot slot s.until 0 n

      lower : (b i : ℕ) → max at b ≤ i → (at ≤ i) × (b ≤ i)
      lower b i g = (omega arith, omega arith)

      below : (b : ℕ) → max at b < s.until → b ≤ s.until
      below b g = omega arith

      live_now : (i slot : ℕ) → HasOpen (found ++ its_life at (get_or covered s.slot 0) s ∷ []) i slot → IsWantedBy (at + 1) stores i slot
      live_now i slot o = elim (front_or_end found (its_life at (get_or covered s.slot 0) s) o.number o.life o.there) [
        | inl f ↦ by_more at stores i slot (so.live i slot (record { number = o.number; life = o.life; there = f; its_slot = o.its_slot; is_open = o.is_open }))
        | inr e ↦ (let opened : IsOpen i (its_life at (get_or covered s.slot 0) s).span = subst (λ (l : Life). IsOpen i l.span) e.1 o.is_open in
            record {
              wanted = record {
                at = at;
                store = s;
                there = there;
                its_slot = ap (λ (l : Life). l.slot) (sym e.1) ∙ o.its_slot;
                since = (lower (get_or covered s.slot 0) i opened.0).0;
                until = opened.1;
              };
              before = omega arith;
            })
      ]

      -- spans of the slot from before are no longer open
      no_overlap : (k : ℕ) (l : Life) (i : ℕ) → slice_get found k ≡ Some l → l.slot ≡ s.slot → IsOpen i l.span → IsOpen i (its_life at (get_or covered s.slot 0) s).span → ⊥
      no_overlap k l i e q o now =
          let ends : l.span.until ≤ get_or covered s.slot 0 = subst (λ n. l.span.until ≤ get_or covered n 0) q (so.some k l e).1 in
          let starts : get_or covered s.slot 0 ≤ i = (lower (get_or covered s.slot 0) i now.0).1 in
          let past : i < l.span.until = o.1 in
          omega arith

      apart_now : AreApart (found ++ its_life at (get_or covered s.slot 0) s ∷ [])
      apart_now j k l m i e f q o p = elim (front_or_end found (its_life at (get_or covered s.slot 0) s) j l e) [
        | inl a ↦ elim (front_or_end found (its_life at (get_or covered s.slot 0) s) k m f) [
          | inl b ↦ so.apart j k l m i a b q o p
          | inr b ↦ absurd (no_overlap j l i a (q ∙ ap (λ (z : Life). z.slot) b.1) o (subst (λ (z : Life). IsOpen i z.span) b.1 p))
        ]
        | inr a ↦ elim (front_or_end found (its_life at (get_or covered s.slot 0) s) k m f) [
          | inl b ↦ absurd (no_overlap k m i b (sym q ∙ ap (λ (z : Life). z.slot) a.1) p (subst (λ (z : Life). IsOpen i z.span) a.1 o))
          | inr b ↦ a.0 ∙ sym b.0
        ]
      ]

      some_now : (k : ℕ) (l : Life) → slice_get (found ++ its_life at (get_or covered s.slot 0) s ∷ []) k ≡ Some l → (l.span.from < l.span.until) × (l.span.until ≤ get_or (set covered s.slot s.until) l.slot 0)
      some_now k l e = elim (front_or_end found (its_life at (get_or covered s.slot 0) s) k l e) [
        | inl a ↦ (let old = so.some k l a in (
          old.0,
          elim (eq_cases l.slot s.slot) [
            | inl q ↦ (let now : get_or (set covered s.slot s.until) l.slot 0 ≡ s.until = ap (λ n. get_or (set covered s.slot s.until) n 0) q ∙ here in
                let ends : l.span.until ≤ get_or covered s.slot 0 = subst (λ n. l.span.until ≤ get_or covered n 0) q old.1 in
                let fits : get_or covered s.slot 0 ≤ s.until = below (get_or covered s.slot 0) h in omega arith)
            | inr n ↦ subst (λ b. l.span.until ≤ b) (sym (elsewhere l.slot n)) old.1
          ],
        ))
        | inr a ↦ subst (λ (z : Life). (z.span.from < z.span.until) × (z.span.until ≤ get_or (set covered s.slot s.until) z.slot 0)) (sym a.1) (h, (let e = here in omega arith))
      ]

      pub added : AreSoFar slots (at + 1) stores (set covered s.slot s.until) (found ++ its_life at (get_or covered s.slot 0) s ∷ [])
      added = record {
        long = length-set covered s.slot s.until ∙ so.long;
        live = live_now;
        all = λ i slot w. elim (earlier_or_now i slot w) [
          | inl v ↦ open_still i slot (so.all i slot v)
          | inr n ↦ subst (HasOpen (found ++ its_life at (get_or covered s.slot 0) s ∷ []) i) (sym n.0) (open_on i n.1 n.2)
        ];
        ahead = λ i slot g l. elim (eq_cases slot s.slot) [
          | inl q ↦ subst (HasOpen (found ++ its_life at (get_or covered s.slot 0) s ∷ []) i) (sym q) (open_on i (omega arith) (subst (λ n. i < n) (ap (λ n. get_or (set covered s.slot s.until) n 0) q ∙ here) l))
          | inr n ↦ open_still i slot (so.ahead i slot (omega arith) (subst (λ b. i < b) (elsewhere slot n) l))
        ];
        apart = apart_now;
        some = some_now;
      }

    pub placed : (covered' : List ℕ) (found' : List Life) → IsPlaced at s covered found covered' found' → AreSoFar slots (at + 1) stores covered' found'
    placed covered' found' (inl p) = subst (λ c. AreSoFar slots (at + 1) stores c found') (sym p.1) (subst (λ f. AreSoFar slots (at + 1) stores (set covered s.slot s.until) f) (sym p.2) (added p.0))
    placed covered' found' (inr p) = subst (λ c. AreSoFar slots (at + 1) stores c found') (sym p.1) (subst (λ f. AreSoFar slots (at + 1) stores covered f) (sym p.2) (not_added p.0))

-- after all stores
pub all_placed : (slots at : ℕ) (stores : List (Option Stored)) (covered : List ℕ) (found : List Life) → AreSoFar slots at stores covered found → length stores ≤ at → AreLives stores found
all_placed slots at stores covered found so h = record {
  live = λ i slot o. (so.live i slot o).wanted;
  all = λ i slot w. so.all i slot (record { wanted = w; before = (let l = slice_get_within stores w.at (Some w.store) w.there in omega arith) });
  apart = so.apart;
  some = λ k l e. (so.some k l e).0;
}

pub none_of : {A : Type 0} (o : Option A) → ((x : A) → o ≡ Some x → ⊥) → o ≡ None
none_of None h = refl
none_of (Some x) h = absurd (h x refl)
