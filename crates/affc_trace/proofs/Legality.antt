-- Admissible folds and a legal order keep each load's source.
use Rattle.std.proofs.Common.{◌≡◌, ◌≢◌, Bool, true, false, true≢false, if◌then◌else◌, List, [], ◌∷◌, ◌++◌, Option, Some, None, map, refl, sym, ap, subst, ◌∙◌, ◌⊎◌, inl, inr}
use Rattle.std.specs.Bool.{Decides}
use Rattle.affc_trace.specs.Law.{Effect, placed, or_else, last_store, held, all_held, stores_of, as_stored, IsIn, SameLastStores, HandedIn}
use Rattle.affc_trace.specs.Orders.{Earlier, AreDistinct, IsReordered, Legal, Admissible, KeepsArrays}
use Rattle.affc_trace.proofs.LastStores.{option_map, and_then_some, last_value, source_values, equal_last_stores}

-- ---- before and after in a list

module _ {I : Type 0} where
  pub later_is_in : (is : List I) (a b : I) → Earlier is a b → IsIn b is
  later_is_in [] a b e = absurd e
  later_is_in (x ∷ is) a b (inl e) = inr e.1
  later_is_in (x ∷ is) a b (inr e) = inr (later_is_in is a b e)

  pub earlier_is_in : (is : List I) (a b : I) → Earlier is a b → IsIn a is
  earlier_is_in [] a b e = absurd e
  earlier_is_in (x ∷ is) a b (inl e) = inl e.0
  earlier_is_in (x ∷ is) a b (inr e) = inr (earlier_is_in is a b e)

  pub one_way : (is : List I) (a b : I) → AreDistinct is → Earlier is a b → Earlier is b a → ⊥
  one_way [] a b d e f = e
  one_way (x ∷ is) a b d (inl e) (inl f) = d.0 (subst (λ y. IsIn y is) f.0 e.1)
  one_way (x ∷ is) a b d (inl e) (inr f) = d.0 (subst (λ y. IsIn y is) e.0 (later_is_in is b a f))
  one_way (x ∷ is) a b d (inr e) (inl f) = d.0 (subst (λ y. IsIn y is) f.0 (later_is_in is a b e))
  one_way (x ∷ is) a b d (inr e) (inr f) = one_way is a b d.1 e f

  pub either_way : (is : List I) (a b : I) → a ≢ b → IsIn a is → IsIn b is → Earlier is a b ⊎ Earlier is b a
  either_way [] a b n i j = absurd i
  either_way (x ∷ is) a b n (inl i) (inl j) = absurd (n (i ∙ sym j))
  either_way (x ∷ is) a b n (inl i) (inr j) = inl (inl (i, j))
  either_way (x ∷ is) a b n (inr i) (inl j) = inr (inl (j, i))
  either_way (x ∷ is) a b n (inr i) (inr j) = elim (either_way is a b n i j) [ inl e ↦ inl (inr e) | inr e ↦ inr (inr e) ]

  pub in_front : (before after : List I) (a b : I) → AreDistinct (before ++ b ∷ after) → Earlier (before ++ b ∷ after) a b → IsIn a before
  in_front [] after a b d (inl e) = absurd (d.0 e.1)
  in_front [] after a b d (inr e) = absurd (d.0 (later_is_in after a b e))
  in_front (x ∷ before) after a b d (inl e) = inl e.0
  in_front (x ∷ before) after a b d (inr e) = inr (in_front before after a b d.1 e)

  pub in_rest : (before after : List I) (b : I) → IsIn b (before ++ b ∷ after)
  in_rest [] after b = inl refl
  in_rest (x ∷ before) after b = inr (in_rest before after b)

  pub from_front : (before after : List I) (a b : I) → IsIn a before → Earlier (before ++ b ∷ after) a b
  from_front [] after a b i = absurd i
  from_front (x ∷ before) after a b (inl i) = inl (i, in_rest before after b)
  from_front (x ∷ before) after a b (inr i) = inr (from_front before after a b i)

  pub still_in : (before after : List I) (a : I) → IsIn a before → IsIn a (before ++ after)
  still_in [] after a i = absurd i
  still_in (x ∷ before) after a (inl i) = inl i
  still_in (x ∷ before) after a (inr i) = inr (still_in before after a i)

  pub still_earlier : (before after : List I) (a b : I) → Earlier before a b → Earlier (before ++ after) a b
  still_earlier [] after a b e = absurd e
  still_earlier (x ∷ before) after a b (inl e) = inl (e.0, still_in before after b e.1)
  still_earlier (x ∷ before) after a b (inr e) = inr (still_earlier before after a b e)

  pub split_at : (is : List I) (b : I) → IsIn b is → (before : List I) × (after : List I) × (is ≡ before ++ b ∷ after)
  split_at [] b i = absurd i
  split_at (x ∷ is) b (inl i) = ([], is, ap (λ y. y ∷ is) (sym i))
  split_at (x ∷ is) b (inr i) = let r = split_at is b i in (x ∷ r.0, r.1, ap (λ l. x ∷ l) r.2)

-- ---- the last store

module _ {I X V : Type 0} (effect : I → Effect X V) (same : X → X → Bool) (decides : (x y : X) → Decides (same x y) (x ≡ y)) where
  abbrev pub IsLast : List I → X → Option I → Type 0
  IsLast done x None = (d : I) → IsIn d done → x ≢ (effect d).stores
  IsLast done x (Some c) = IsIn c done × (x ≡ (effect c).stores) × ((d : I) → IsIn d done → x ≡ (effect d).stores → (d ≡ c) ⊎ Earlier done d c)

  last_step : (a : I) (done : List I) (x : X) (l : Option I) (t : Bool) → IsLast done x l → same x (effect a).stores ≡ t → IsLast (a ∷ done) x (or_else l (if t then Some a else None))
  last_step a done x (Some c) t p e =
      (inr p.0, p.1, λ d i s. elim i [ inl q ↦ inr (inl (q, p.0)) | inr q ↦ elim (p.2 d q s) [ inl r ↦ inl r | inr r ↦ inr (inr r) ] ])
  last_step a done x None true p e = (inl refl, (decides x (effect a).stores).0 e, λ d i s. elim i [ inl q ↦ inl q | inr q ↦ absurd (p d q s) ])
  last_step a done x None false p e = λ d i s. elim i [
    | inl q ↦ absurd (true≢false (sym ((decides x (effect a).stores).1 (s ∙ ap (λ i. (effect i).stores) q)) ∙ e))
    | inr q ↦ p d q s
  ]

  pub is_last : (done : List I) (x : X) → IsLast done x (last_store same effect done x)
  is_last [] x = λ d i. absurd i
  is_last (a ∷ done) x = last_step a done x (last_store same effect done x) (same x (effect a).stores) (is_last done x) refl

-- ---- the law's premise

-- where no store comes before a load of x, x has been handed in
abbrev pub LoadsAreGiven : {I X V : Type 0} → (I → Effect X V) → (X → X → Bool) → (X → Option V) → List I → Type 0
LoadsAreGiven {I} {X} {V} effect same start trace =
    (done rest : List I) (b : I) → trace ≡ done ++ b ∷ rest → (x : X) → IsIn x (effect b).loads → last_store same effect done x ≡ None → (u : V) × (start x ≡ Some u)

module _ {I X Y V : Type 0} (effect : I → Effect X V) (same : X → X → Bool) (same' : Y → Y → Bool)
    (decides : (x y : X) → Decides (same x y) (x ≡ y)) (decides' : (x y : Y) → Decides (same' x y) (x ≡ y))
    (OneArray : X → X → Type 0) (place : X → Y) (start : X → Option V) (trace target : List I)
    (re : IsReordered trace target) (legal : Legal effect trace target)
    (fold : Admissible effect same OneArray place trace target) (keeps : KeepsArrays OneArray place start)
    (given : LoadsAreGiven effect same start trace) where
  -- a store of x that stands before a load of x in the target does so in the trace
  stood_before : (b c : I) (x : X) → IsIn x (effect b).loads → x ≡ (effect c).stores → Earlier target c b → Earlier trace c b
  stood_before b c x i s e =
      let apart : c ≢ b = λ q. one_way target c b re.once_in_target e (subst (λ z. Earlier target z c) q (subst (λ z. Earlier target c z) (sym q) e)) in
      elim (either_way trace c b apart (re.no_other c (earlier_is_in target c b e)) (re.no_other b (later_is_in target c b e))) [
        | inl f ↦ f
        | inr f ↦ absurd (one_way target c b re.once_in_target e
            (legal b c (λ q. apart (sym q)) (record { element = x; first = inl i; second = inr s; stored = inr s }) f))
      ]

  -- c stores at the place of x after a, whose value is still to be loaded
  none_between : (done rest : List I) (a b c : I) (x : X) (t : Bool) → same x (effect c).stores ≡ t → trace ≡ done ++ b ∷ rest → IsIn x (effect b).loads
      → last_store same effect done x ≡ Some a → IsLast effect same decides done x (Some a)
      → Earlier target a c → Earlier target c b → place x ≡ place (effect c).stores → ⊥
  none_between done rest a b c x true t e i l p after before s =
      let stored : x ≡ (effect c).stores = (decides x (effect c).stores).0 t in
      let in_done : IsIn c done = in_front done rest c b (subst AreDistinct e re.once) (subst (λ z. Earlier z c b) e (stood_before b c x i stored before)) in
      elim (p.2 c in_done stored) [
        | inl q ↦ one_way target a c re.once_in_target after (subst (λ z. Earlier target c z) q (subst (λ z. Earlier target z c) (sym q) after))
        | inr q ↦ one_way target a c re.once_in_target after
            (legal c a (λ r. one_way target a c re.once_in_target after (subst (λ z. Earlier target c z) r (subst (λ z. Earlier target z c) (sym r) after)))
            (record { element = x; first = inr stored; second = inr p.1; stored = inl stored })
            (subst (λ z. Earlier z c a) (sym e) (still_earlier done (b ∷ rest) c a q)))
      ]
  none_between done rest a b c x false t e i l p after before s =
      fold x (effect c).stores (record {
        distinct = λ q. true≢false (sym ((decides x (effect c).stores).1 q) ∙ t);
        one_array = keeps.apart x (effect c).stores s;
        between = inl (record { store = a; load = b; other = c; loads = i; source = (done, rest, e, l); stores = refl; after = after; before = before });
      }) s

  -- a load's source stays before it
  in_before : (done rest before after : List I) (a b : I) (x : X) → trace ≡ done ++ b ∷ rest → target ≡ before ++ b ∷ after → IsIn x (effect b).loads
      → IsIn a done → x ≡ (effect a).stores → IsIn a before
  in_before done rest before after a b x e e' i d s =
      let in_trace : Earlier trace a b = subst (λ z. Earlier z a b) (sym e) (from_front done rest a b d) in
      let apart : a ≢ b = λ r. one_way trace a b re.once in_trace (subst (λ z. Earlier trace z a) r (subst (λ z. Earlier trace a z) (sym r) in_trace)) in
      in_front before after a b (subst AreDistinct e' re.once_in_target) (subst (λ z. Earlier z a b) e'
      (legal a b apart (record { element = x; first = inr s; second = inl i; stored = inl s }) in_trace))

  compared : (done rest before after : List I) (b : I) (x : X) → trace ≡ done ++ b ∷ rest → target ≡ before ++ b ∷ after → IsIn x (effect b).loads
      → (l l' : Option I) → last_store same effect done x ≡ l → IsLast effect same decides done x l → IsLast (placed place effect) same' decides' before (place x) l' → l' ≡ l
  compared done rest before after b x e e' i None None l p q = refl
  compared done rest before after b x e e' i None (Some c) l p q =
      let u = given done rest b e x i l in
      let stored : x ≡ (effect c).stores = keeps.own x (effect c).stores u.0 u.1 q.1 in
      let in_target : Earlier target c b = subst (λ z. Earlier z c b) (sym e') (from_front before after c b q.0) in
      absurd (p c (in_front done rest c b (subst AreDistinct e re.once) (subst (λ z. Earlier z c b) e (stood_before b c x i stored in_target))) stored)
  compared done rest before after b x e e' i (Some a) None l p q =
      absurd (q a (in_before done rest before after a b x e e' i p.0 p.1) (ap place p.1))
  compared done rest before after b x e e' i (Some a) (Some c) l p q =
      elim (q.2 a (in_before done rest before after a b x e e' i p.0 p.1) (ap place p.1)) [
        | inl r ↦ ap Some (sym r)
        | inr r ↦ absurd (none_between done rest a b c x (same x (effect c).stores) refl e i l p
            (subst (λ z. Earlier z a c) (sym e') (still_earlier before (b ∷ after) a c r))
            (subst (λ z. Earlier z c b) (sym e') (from_front before after c b q.0)) q.1)
      ]

  pub keeps_sources : SameLastStores same same' place effect trace target
  keeps_sources before after b e' =
      let r = split_at trace b (re.no_other b (subst (IsIn b) (sym e') (in_rest before after b))) in (
        r.0,
        r.1,
        r.2,
        λ x i. compared r.0 r.1 before after b x r.2 e' i (last_store same effect r.0 x) (last_store same' (placed place effect) before (place x)) refl
            (is_last effect same decides r.0 x) (is_last (placed place effect) same' decides' before (place x)),
      )

-- ---- what is left at the end

module _ {I X Y V : Type 0} (effect : I → Effect X V) (same : X → X → Bool) (same' : Y → Y → Bool)
    (decides : (x y : X) → Decides (same x y) (x ≡ y)) (decides' : (x y : Y) → Decides (same' x y) (x ≡ y))
    (place : X → Y) (trace target : List I) (re : IsReordered trace target) (legal : Legal effect trace target) where
  last_compared : (x : X) → ((y : X) → place x ≡ place y → x ≡ y) → (l l' : Option I) → IsLast effect same decides trace x l → IsLast (placed place effect) same' decides' target (place x) l' → l' ≡ l
  last_compared x own None None p q = refl
  last_compared x own None (Some c) p q = absurd (p c (re.no_other c q.0) (own (effect c).stores q.1))
  last_compared x own (Some a) None p q = absurd (q a (re.kept a p.0) (ap place p.1))
  last_compared x own (Some a) (Some c) p q =
      let stored : x ≡ (effect c).stores = own (effect c).stores q.1 in
      elim (q.2 a (re.kept a p.0) (ap place p.1)) [
        | inl e ↦ ap Some (sym e)
        | inr after ↦ elim (p.2 c (re.no_other c q.0) stored) [
          | inl e ↦ ap Some e
          | inr before ↦ absurd (one_way target a c re.once_in_target after
              (legal c a (λ r. one_way target a c re.once_in_target after (subst (λ z. Earlier target c z) r (subst (λ z. Earlier target z c) (sym r) after)))
              (record { element = x; first = inr stored; second = inr p.1; stored = inl stored }) before))
        ]
      ]

  -- an element that shares its place with no other is last stored by the same instance in both orders
  pub same_last : (x : X) → ((y : X) → place x ≡ place y → x ≡ y) → last_store same' (placed place effect) target (place x) ≡ last_store same effect trace x
  same_last x own = last_compared x own (last_store same effect trace x) (last_store same' (placed place effect) target (place x))
      (is_last effect same decides trace x) (is_last (placed place effect) same' decides' target (place x))

-- ---- a source that ends

held_each : {X V : Type 0} (at : X → Option V) (xs : List X) (vs : List V) → all_held at xs ≡ Some vs → (x : X) → IsIn x xs → (u : V) × (at x ≡ Some u)
held_each at [] vs e x i = absurd i
held_each at (y ∷ xs) vs e x (inl i) = let p = and_then_some (at y) _ _ e in (p.0, ap at i ∙ p.1)
held_each at (y ∷ xs) vs e x (inr i) =
    let p = and_then_some (at y) _ _ e in
    let q = and_then_some (all_held at xs) _ _ p.2 in
    held_each at xs q.0 q.1 x i

pub loads_are_given : {I X V : Type 0} (effect : I → Effect X V) (same : X → X → Bool) (start : X → Option V) (v : I → V) (trace : List I)
    → stores_of same start [] (map effect trace) ≡ Some (as_stored effect v trace) → LoadsAreGiven effect same start trace
loads_are_given effect same start v trace run done rest b e x i l =
    let s = source_values same effect v start [] done b rest (subst (λ l. stores_of same start [] (map effect l) ≡ Some (as_stored effect v l)) e run) in
    let h = held_each (held same start (as_stored effect v done)) (effect b).loads s.0 s.1 x i in
    (h.0, sym (ap (λ o. or_else o (start x)) (last_value same effect v done x ∙ ap (option_map v) l)) ∙ h.1)

pub same_values : {I X Y V : Type 0} (effect : I → Effect X V) (same : X → X → Bool) (same' : Y → Y → Bool)
    (decides : (x y : X) → Decides (same x y) (x ≡ y)) (decides' : (x y : Y) → Decides (same' x y) (x ≡ y))
    (OneArray : X → X → Type 0) (place : X → Y)
    (start : X → Option V) (start' : Y → Option V) (v : I → V) (trace target : List I)
    → stores_of same start [] (map effect trace) ≡ Some (as_stored effect v trace)
    → IsReordered trace target → Legal effect trace target → Admissible effect same OneArray place trace target
    → KeepsArrays OneArray place start → HandedIn place start start'
    → stores_of same' start' [] (map (placed place effect) target) ≡ Some (as_stored (placed place effect) v target)
same_values effect same same' decides decides' OneArray place start start' v trace target run re legal fold keeps handed =
    equal_last_stores effect same same' place start start' v trace target run
    (keeps_sources effect same same' decides decides' OneArray place start trace target re legal fold keeps (loads_are_given effect same start v trace run))
    handed
