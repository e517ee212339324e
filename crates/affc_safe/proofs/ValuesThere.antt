-- Where each load has a store before it, or finds a value at the start, all effects find their values.
use Rattle.std.proofs.Common.{◌≡◌, Bool, true, false, true≢false, if◌then◌else◌, List, [], ◌∷◌, ◌++◌, Option, Some, None, map, refl, sym, ap, subst, ◌∙◌, ◌⊎◌, inl, inr}
use Rattle.std.specs.Prelude.{is_some, ◌||◌}
use Rattle.affc_trace.specs.Law.{Effect, or_else, and_then, both_of, last_at, last_store, held, all_held, stores_of, IsIn}
use Rattle.affc_trace.proofs.LastStores.{push_append, append_nil}

pub some_or : {A : Type 0} (a b : Option A) → is_some (or_else a b) ≡ (is_some a || is_some b)
some_or None b = refl
some_or (Some x) b = refl

pub some_if : {A : Type 0} (b : Bool) (x : A) → is_some (if b then Some x else None) ≡ b
some_if true x = refl
some_if false x = refl

get_some : {A : Type 0} (o : Option A) → is_some o ≡ true → (x : A) × (o ≡ Some x)
get_some None e = absurd (true≢false (sym e))
get_some (Some x) e = (x, refl)

all_some : {X V : Type 0} (f : X → Option V) (xs : List X) → ((x : X) → IsIn x xs → is_some (f x) ≡ true) → (vs : List V) × (all_held f xs ≡ Some vs)
all_some f [] h = ([], refl)
all_some f (x ∷ xs) h =
    let first = get_some (f x) (h x (inl refl)) in
    let rest = all_some f xs (λ y i. h y (inr i)) in
    (first.0 ∷ rest.0, ap (λ o. both_of o (all_held f xs)) first.1 ∙ ap (both_of (Some first.0)) rest.1)

module _ {I X V : Type 0} (same : X → X → Bool) (effect : I → Effect X V) (start : X → Option V) where
  -- these stores are those of these instances
  abbrev Matched : List I → List (X × V) → Type 0
  Matched [] [] = Unit {0}
  Matched (a ∷ as') (e ∷ es) = (e.0 ≡ (effect a).stores) × Matched as' es
  Matched _ _ = ⊥

  matched_push : (done : List I) (w : List (X × V)) (b : I) (v : V) → Matched done w → Matched (done ++ b ∷ []) (w ++ ((effect b).stores, v) ∷ [])
  matched_push [] [] b v m = (refl, tt)
  matched_push [] (e ∷ w) b v m = absurd m
  matched_push (a ∷ done) [] b v m = absurd m
  matched_push (a ∷ done) (e ∷ w) b v m = (m.0, matched_push done w b v m.1)

  matched_last : (done : List I) (w : List (X × V)) (x : X) → Matched done w → is_some (last_store same effect done x) ≡ is_some (last_at same x w)
  matched_last [] [] x m = refl
  matched_last [] (e ∷ w) x m = absurd m
  matched_last (a ∷ done) [] x m = absurd m
  matched_last (a ∷ done) (e ∷ w) x m =
      some_or (last_store same effect done x) (if same x (effect a).stores then Some a else None)
      ∙ ap (λ c. c || is_some (if same x (effect a).stores then Some a else None)) (matched_last done w x m.1)
      ∙ ap (λ c. is_some (last_at same x w) || c) (some_if (same x (effect a).stores) a ∙ ap (same x) (sym m.0) ∙ sym (some_if (same x e.0) e.1))
      ∙ sym (some_or (last_at same x w) (if same x e.0 then Some e.1 else None))

  -- after these instances, a store of x stands before, or x holds a value at the start
  abbrev pub Given : List I → X → Type 0
  Given done x = (is_some (last_store same effect done x) ≡ true) ⊎ (is_some (start x) ≡ true)

  given_held : (done : List I) (w : List (X × V)) (x : X) → Matched done w → Given done x → is_some (held same start w x) ≡ true
  given_held done w x m (inl e) = some_or (last_at same x w) (start x) ∙ ap (λ c. c || is_some (start x)) (sym (matched_last done w x m) ∙ e)
  given_held done w x m (inr e) = some_or (last_at same x w) (start x) ∙ ap (λ c. is_some (last_at same x w) || c) e ∙ or_true (is_some (last_at same x w))
    where
      or_true : (b : Bool) → (b || true) ≡ true
      or_true true = refl
      or_true false = refl

  -- each load of these instances is given, where these others stand before them
  abbrev pub AllGiven : (done is : List I) → Type 0
  AllGiven done is = (before rest : List I) (b : I) → is ≡ before ++ b ∷ rest → (x : X) → IsIn x (effect b).loads → Given (done ++ before) x

  pub stores_there : (done is : List I) (w : List (X × V)) → Matched done w → AllGiven done is → (es : List (X × V)) × (stores_of same start w (map effect is) ≡ Some es)
  stores_there done [] w m g = ([], refl)
  stores_there done (b ∷ is) w m g =
      let values = all_some (held same start w) (effect b).loads (λ x i. given_held done w x m (subst (λ l. Given l x) (append_nil done) (g [] is b refl x i))) in
      let e : X × V = ((effect b).stores, (effect b).value values.0) in
      let rest = stores_there (done ++ b ∷ []) is (w ++ e ∷ []) (matched_push done w b ((effect b).value values.0) m) (λ before rest c q x i.
      subst (λ l. Given l x) (sym (push_append done b before)) (g (b ∷ before) rest c (ap (λ l. b ∷ l) q) x i)) in (
        e ∷ rest.0,
        ap (λ o. and_then o (λ vs. let e : X × V = ((effect b).stores, (effect b).value vs) in and_then (stores_of same start (w ++ e ∷ []) (map effect is)) (λ ws. Some (e ∷ ws)))) values.1
            ∙ ap (λ o. and_then o (λ ws. Some (e ∷ ws))) rest.1,
      )
