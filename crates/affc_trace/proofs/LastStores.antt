-- The law of last stores.
use Rattle.std.proofs.Common.{◌≡◌, Bool, true, false, if◌then◌else◌, List, [], ◌∷◌, ◌++◌, Option, Some, None, map, refl, sym, ap, subst, ◌∙◌, inl, inr}
use Rattle.affc_trace.specs.Law.{Effect, placed, or_else, and_then, both_of, last_at, last_store, held, all_held, stores_of, as_stored, IsIn, SameLastStores, HandedIn, EqualLastStores}

abbrev pub option_map : {A B : Type 0} → (A → B) → Option A → Option B
option_map f None = None
option_map f (Some a) = Some (f a)

-- ---- lists and options

pub push_append : {A : Type 0} (xs : List A) (y : A) (ys : List A) → (xs ++ y ∷ []) ++ ys ≡ xs ++ y ∷ ys
push_append [] y ys = refl
push_append (x ∷ xs) y ys = ap (λ l. x ∷ l) (push_append xs y ys)

pub append_nil : {A : Type 0} (xs : List A) → xs ++ [] ≡ xs
append_nil [] = refl
append_nil (x ∷ xs) = ap (λ l. x ∷ l) (append_nil xs)

pub map_append : {A B : Type 0} (f : A → B) (xs ys : List A) → map f (xs ++ ys) ≡ map f xs ++ map f ys
map_append f [] ys = refl
map_append f (x ∷ xs) ys = ap (λ l. f x ∷ l) (map_append f xs ys)

abbrev pub IsSome : {A : Type 0} → Option A → Type 0
IsSome None = ⊥
IsSome (Some a) = Unit {0}

abbrev pub get : {A : Type 0} → A → Option A → A
get d None = d
get d (Some a) = a

abbrev first_value : {X V : Type 0} → V → List (X × V) → V
first_value d [] = d
first_value d (e ∷ es) = e.1

abbrev rest_of : {A : Type 0} → List A → List A
rest_of [] = []
rest_of (x ∷ xs) = xs

pub and_then_some : {A B : Type 0} (o : Option A) (f : A → Option B) (y : B) → and_then o f ≡ Some y → (a : A) × (o ≡ Some a) × (f a ≡ Some y)
and_then_some None f y e = absurd (subst IsSome (sym e) tt)
and_then_some (Some a) f y e = (a, refl, e)

-- ---- the last store of a value is the value of the last store

module _ {I X V : Type 0} (same : X → X → Bool) (effect : I → Effect X V) (v : I → V) where
  mapped_or : (a : Option I) (t : Bool) (i : I) → or_else (option_map v a) (if t then Some (v i) else None) ≡ option_map v (or_else a (if t then Some i else None))
  mapped_or None true i = refl
  mapped_or None false i = refl
  mapped_or (Some a) t i = refl

  pub last_value : (done : List I) (x : X) → last_at same x (as_stored effect v done) ≡ option_map v (last_store same effect done x)
  last_value [] x = refl
  last_value (a ∷ done) x =
      ap (λ o. or_else o (if same x (effect a).stores then Some (v a) else None)) (last_value done x)
      ∙ mapped_or (last_store same effect done x) (same x (effect a).stores) a

  -- what the run says of its first instance, and of the rest
  pub Step : (X → Option V) → List (X × V) → I → List I → Type 0
  Step start w b bs =
      (vs : List V) × (all_held (held same start w) (effect b).loads ≡ Some vs) × ((effect b).value vs ≡ v b)
      × (stores_of same start (w ++ ((effect b).stores, v b) ∷ []) (map effect bs) ≡ Some (as_stored effect v bs))

  one_step : (start : X → Option V) (w : List (X × V)) (b : I) (bs : List I) → stores_of same start w (map effect (b ∷ bs)) ≡ Some (as_stored effect v (b ∷ bs)) → Step start w b bs
  unfolding Step
  one_step start w b bs e =
      let p = and_then_some (all_held (held same start w) (effect b).loads) _ _ e in
      let vs : List V = p.0 in
      let q = and_then_some (stores_of same start (w ++ ((effect b).stores, (effect b).value vs) ∷ []) (map effect bs)) _ _ p.2 in
      let lists : ((effect b).stores, (effect b).value vs) ∷ q.0 ≡ as_stored effect v (b ∷ bs) = ap (get []) q.2 in
      let stored : (effect b).value vs ≡ v b = ap (first_value (v b)) lists in
      (vs, p.1, stored, subst (λ u. stores_of same start (w ++ ((effect b).stores, u) ∷ []) (map effect bs) ≡ Some (as_stored effect v bs)) stored (q.1 ∙ ap Some (ap rest_of lists)))

  -- each instance's loads find what gives its value
  pub source_values : (start : X → Option V) (w : List (X × V)) (done : List I) (b : I) (rest : List I) →
      stores_of same start w (map effect (done ++ b ∷ rest)) ≡ Some (as_stored effect v (done ++ b ∷ rest)) →
      (vs : List V) × (all_held (held same start (w ++ as_stored effect v done)) (effect b).loads ≡ Some vs) × ((effect b).value vs ≡ v b)
  unfolding Step
  source_values start w [] b rest e =
      let s = one_step start w b rest e in
      (s.0, subst (λ l. all_held (held same start l) (effect b).loads ≡ Some s.0) (sym (append_nil w)) s.1, s.2)
  source_values start w (a ∷ done) b rest e =
      let s = one_step start w a (done ++ b ∷ rest) e in
      let r = source_values start (w ++ ((effect a).stores, v a) ∷ []) done b rest s.3 in
      (r.0, subst (λ l. all_held (held same start l) (effect b).loads ≡ Some r.0) (push_append w ((effect a).stores, v a) (as_stored effect v done)) r.1, r.2)

-- ---- the run in another order

module _ {I X Y V : Type 0} (effect : I → Effect X V) (same : X → X → Bool) (same' : Y → Y → Bool) (place : X → Y) (start : X → Option V) (start' : Y → Option V) (v : I → V) where
  all_held_moved : (at : X → Option V) (at' : Y → Option V) (xs : List X) (vs : List V) → all_held at xs ≡ Some vs
      → ((x : X) → IsIn x xs → (u : V) → at x ≡ Some u → at' (place x) ≡ Some u) → all_held at' (map place xs) ≡ Some vs
  all_held_moved at at' [] vs e f = e
  all_held_moved at at' (x ∷ xs) vs e f =
      let p = and_then_some (at x) _ _ e in
      let q = and_then_some (all_held at xs) _ _ p.2 in
      ap (λ o. both_of o (all_held at' (map place xs))) (f x (inl refl) p.0 p.1)
      ∙ ap (both_of (Some p.0)) (all_held_moved at at' xs q.0 q.1 (λ y i. f y (inr i)))
      ∙ q.2

  found : (l : Option I) (x : X) (u : V) → HandedIn place start start' → or_else (option_map v l) (start x) ≡ Some u → or_else (option_map v l) (start' (place x)) ≡ Some u
  found None x u handed e = handed x u e
  found (Some a) x u handed e = e

  held_moved : (before done : List I) (x : X) (u : V) → HandedIn place start start' → last_store same' (placed place effect) before (place x) ≡ last_store same effect done x
      → held same start (as_stored effect v done) x ≡ Some u → held same' start' (as_stored (placed place effect) v before) (place x) ≡ Some u
  held_moved before done x u handed l e =
      ap (λ o. or_else o (start' (place x))) (last_value same' (placed place effect) v before (place x) ∙ ap (option_map v) l)
      ∙ found (last_store same effect done x) x u handed (sym (ap (λ o. or_else o (start x)) (last_value same effect v done x)) ∙ e)

  target_values : (trace target : List I) → stores_of same start [] (map effect trace) ≡ Some (as_stored effect v trace)
      → SameLastStores same same' place effect trace target → HandedIn place start start'
      → (before after : List I) → target ≡ before ++ after
      → stores_of same' start' (as_stored (placed place effect) v before) (map (placed place effect) after) ≡ Some (as_stored (placed place effect) v after)
  target_values trace target run sames handed before [] e = refl
  target_values trace target run sames handed before (b ∷ after) e =
      let p = sames before after b e in
      let s = source_values same effect v start [] p.0 b p.1 (subst (λ l. stores_of same start [] (map effect l) ≡ Some (as_stored effect v l)) p.2 run) in
      let effect' : I → Effect Y V = placed place effect in
      let next : List I = before ++ b ∷ [] in
      let values : all_held (held same' start' (as_stored effect' v before)) (effect' b).loads ≡ Some s.0 =
      all_held_moved _ _ (effect b).loads s.0 s.1 (λ x i u. held_moved before p.0 x u handed (p.3 x i)) in
      let more = target_values trace target run sames handed next after (e ∙ sym (push_append before b after)) in
      ap (λ o. and_then o (λ vs. let e : Y × V = ((effect' b).stores, (effect' b).value vs) in
      and_then (stores_of same' start' (as_stored effect' v before ++ e ∷ []) (map effect' after)) (λ es. Some (e ∷ es)))) values
      ∙ ap (λ u. let e : Y × V = ((effect' b).stores, u) in
      and_then (stores_of same' start' (as_stored effect' v before ++ e ∷ []) (map effect' after)) (λ es. Some (e ∷ es))) s.2
      ∙ ap (λ w. let e : Y × V = ((effect' b).stores, v b) in
      and_then (stores_of same' start' w (map effect' after)) (λ es. Some (e ∷ es))) (sym (map_append (λ b. ((effect' b).stores, v b)) before (b ∷ [])))
      ∙ ap (λ o. and_then o (λ es. Some (((effect' b).stores, v b) ∷ es))) more

pub equal_last_stores : {I X Y V : Type 0} → EqualLastStores I X Y V
equal_last_stores effect same same' place start start' v trace target run sames handed =
    target_values effect same same' place start start' v trace target run sames handed [] target refl
