-- Which element an access touches, and whether it stores it.
use Rattle.std.proofs.Common.{◌≡◌, Bool, true, true≢false, List, [], ◌∷◌, ◌++◌, map, refl, sym, ap, subst, ◌∙◌, ◌⊎◌, inl, inr}
use Rattle.std.proofs.lemmas.List.{same_from_push}
use Rattle.affc_trace.specs.Law.{IsIn}
use Rattle.affc_trace.proofs.LastStores.{map_append}
use Rattle.affc_trace.proofs.Members.{in_map, to_map, to_first, to_second}
use Rattle.affc_trace.proofs.Once.{in_append}
use Rattle.affc_nest.specs.declared.nest.Access.{Access}
use Rattle.affc_sched.specs.Questions.{Touch, is_last, touches}

pub touch_in : (xs : List Access) (y : Touch) → IsIn y (touches xs) → IsIn y.0 xs
touch_in [] y i = absurd i
touch_in (x ∷ xs) y (inl e) = inl (ap (λ (z : Touch). z.0) e)
touch_in (x ∷ xs) y (inr i) = inr (touch_in xs y i)

in_touch : (xs : List Access) (x : Access) → IsIn x xs → (t : Bool) × IsIn (x, t) (touches xs)
in_touch [] x i = absurd i
in_touch (y ∷ xs) x (inl e) = (is_last xs, inl (ap (λ (z : Access). (z, is_last xs)) e))
in_touch (y ∷ xs) x (inr i) = let r = in_touch xs x i in (r.0, inr r.1)

-- a store stands last
last_touch : (xs : List Access) (y : Touch) → IsIn y (touches xs) → y.1 ≡ true → (front : List Access) × (xs ≡ front ++ y.0 ∷ [])
last_touch [] y i s = absurd i
last_touch (x ∷ xs) y (inl e) s = alone xs (sym (ap (λ (z : Touch). z.1) e) ∙ s)
  where
    alone : (xs : List Access) → is_last xs ≡ true → (front : List Access) × (x ∷ xs ≡ front ++ y.0 ∷ [])
    alone [] h = ([], ap (λ (z : Touch). z.0 ∷ []) (sym e))
    alone (z ∷ xs) h = absurd (true≢false (sym h))
last_touch (x ∷ xs) y (inr i) s = let r = last_touch xs y i s in (x ∷ r.0, ap (λ ys. x ∷ ys) r.1)

-- where there is an access there is a store
store_touch : (x : Access) (xs : List Access) → (y : Touch) × IsIn y (touches (x ∷ xs)) × (y.1 ≡ true)
store_touch x [] = ((x, true), inl refl, refl)
store_touch x (z ∷ xs) = let r = store_touch z xs in (r.0, inr r.1, r.2)

not_empty : {X : Type 0} (xs : List X) (x : X) → [] ≡ xs ++ x ∷ [] → ⊥
not_empty [] x e = cc
not_empty (y ∷ xs) x e = cc

some_store : {X : Type 0} (at : Access → X) (xs : List Access) (loads : List X) (store : X) → map at xs ≡ loads ++ store ∷ [] → (y : Touch) × IsIn y (touches xs) × (y.1 ≡ true)
some_store at [] loads store e = absurd (not_empty loads store e)
some_store at (x ∷ xs) loads store e = store_touch x xs

module _ {X : Type 0} (at : Access → X) (xs : List Access) (loads : List X) (store : X) (are : map at xs ≡ loads ++ store ∷ []) where
  -- an access touches an element that is loaded or stored
  pub touched : (y : Touch) → IsIn y (touches xs) → IsIn (at y.0) loads ⊎ (at y.0 ≡ store)
  touched y i = elim (in_append loads (store ∷ []) (at y.0) (subst (IsIn (at y.0)) are (to_map at xs y.0 (touch_in xs y i)))) [
    | inl j ↦ inl j
    | inr j ↦ inr (alone j)
  ]
    where
      alone : {x : X} → IsIn x (store ∷ []) → x ≡ store
      alone (inl e) = e
      alone (inr n) = absurd n

  -- a store touches the stored element
  pub stored : (y : Touch) → IsIn y (touches xs) → y.1 ≡ true → at y.0 ≡ store
  stored y i s =
      let r = last_touch xs y i s in
      (same_from_push (map at r.0) loads (at y.0) store (sym (map_append at r.0 (y.0 ∷ [])) ∙ ap (map at) (sym r.1) ∙ are)).1

  -- each element that is loaded or stored is touched by an access
  pub touching : (x : X) → IsIn x loads ⊎ (x ≡ store) → (y : Touch) × IsIn y (touches xs) × (x ≡ at y.0)
  touching x h =
      let i : IsIn x (loads ++ store ∷ []) = elim h [ inl j ↦ to_first loads (store ∷ []) x j | inr e ↦ to_second loads (store ∷ []) x (inl e) ] in
      let a = in_map at xs x (subst (IsIn x) (sym are) i) in
      let t = in_touch xs a.0 a.1 in
      ((a.0, t.0), t.1, a.2)

  -- and the stored one by a store
  pub storing : (y : Touch) × IsIn y (touches xs) × (y.1 ≡ true) × (store ≡ at y.0)
  storing = let r = some_store at xs loads store are in (r.0, r.1, r.2, sym (stored r.0 r.1 r.2))
