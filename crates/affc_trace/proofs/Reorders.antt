-- The target has the trace's instances, each once.
use Rattle.std.proofs.Common.{◌≡◌, Bool, true, false, true≢false, if◌then◌else◌, List, [], ◌∷◌, ◌++◌, Option, Some, map, refl, sym, ap, subst, ◌∙◌, ◌⊎◌, inl, inr, Ordering}
use Rattle.std.specs.Bool.{Decides}
use Rattle.std.specs.Ordering.{is_lt}
use Rattle.affc_trace.specs.Law.{Effect, stores_of, as_stored, IsIn, held, all_held}
use Rattle.affc_trace.specs.Orders.{AreDistinct, IsReordered}
use Rattle.affc_trace.specs.Target.{put_in, in_order_of}
use Rattle.affc_trace.proofs.LastStores.{and_then_some, get}

module _ {A : Type 0} (cmp : A → A → Ordering) where
  if_in : (b : Bool) (a x y : A) (ys zs : List A) → (IsIn a zs → (a ≡ x) ⊎ IsIn a ys) → IsIn a (if b then y ∷ zs else x ∷ y ∷ ys) → (a ≡ x) ⊎ IsIn a (y ∷ ys)
  if_in true a x y ys zs f (inl e) = inr (inl e)
  if_in true a x y ys zs f (inr i) = elim (f i) [ inl e ↦ inl e | inr j ↦ inr (inr j) ]
  if_in false a x y ys zs f i = i

  in_if : (b : Bool) (a x y : A) (ys zs : List A) → ((a ≡ x) ⊎ IsIn a ys → IsIn a zs) → (a ≡ x) ⊎ IsIn a (y ∷ ys) → IsIn a (if b then y ∷ zs else x ∷ y ∷ ys)
  in_if true a x y ys zs f (inl e) = inr (f (inl e))
  in_if true a x y ys zs f (inr (inl e)) = inl e
  in_if true a x y ys zs f (inr (inr j)) = inr (f (inr j))
  in_if false a x y ys zs f i = i

  pub from_put : (x a : A) (ys : List A) → IsIn a (put_in cmp x ys) → (a ≡ x) ⊎ IsIn a ys
  from_put x a [] i = i
  from_put x a (y ∷ ys) i = if_in (is_lt (cmp y x)) a x y ys (put_in cmp x ys) (from_put x a ys) i

  to_put : (x a : A) (ys : List A) → (a ≡ x) ⊎ IsIn a ys → IsIn a (put_in cmp x ys)
  to_put x a [] i = i
  to_put x a (y ∷ ys) i = in_if (is_lt (cmp y x)) a x y ys (put_in cmp x ys) (to_put x a ys) i

  distinct_if : (b : Bool) (x y : A) (ys zs : List A) → (¬ (IsIn x (y ∷ ys))) → AreDistinct (y ∷ ys) → (¬ (IsIn y zs)) → AreDistinct zs → AreDistinct (if b then y ∷ zs else x ∷ y ∷ ys)
  distinct_if true x y ys zs n d m e = (m, e)
  distinct_if false x y ys zs n d m e = (n, d)

  put_distinct : (x : A) (ys : List A) → (¬ (IsIn x ys)) → AreDistinct ys → AreDistinct (put_in cmp x ys)
  put_distinct x [] n d = (n, d)
  put_distinct x (y ∷ ys) n d =
      distinct_if (is_lt (cmp y x)) x y ys (put_in cmp x ys) n d
      (λ i. elim (from_put x y ys i) [ inl e ↦ n (inl (sym e)) | inr j ↦ d.0 j ])
      (put_distinct x ys (λ i. n (inr i)) d.1)

  pub from_order : (a : A) (xs : List A) → IsIn a (in_order_of cmp xs) → IsIn a xs
  from_order a [] i = i
  from_order a (x ∷ xs) i = elim (from_put x a (in_order_of cmp xs) i) [ inl e ↦ inl e | inr j ↦ inr (from_order a xs j) ]

  to_order : (a : A) (xs : List A) → IsIn a xs → IsIn a (in_order_of cmp xs)
  to_order a [] i = i
  to_order a (x ∷ xs) (inl e) = to_put x a (in_order_of cmp xs) (inl e)
  to_order a (x ∷ xs) (inr i) = to_put x a (in_order_of cmp xs) (inr (to_order a xs i))

  order_distinct : (xs : List A) → AreDistinct xs → AreDistinct (in_order_of cmp xs)
  order_distinct [] d = d
  order_distinct (x ∷ xs) d = put_distinct x (in_order_of cmp xs) (λ i. d.0 (from_order x xs i)) (order_distinct xs d.1)

  pub is_reordered : (xs : List A) → AreDistinct xs → IsReordered xs (in_order_of cmp xs)
  is_reordered xs d = record { once = d; once_in_target = order_distinct xs d; kept = λ a. to_order a xs; no_other = λ a. from_order a xs }

-- ---- an order of pairs is that of their first parts

module _ {A B : Type 0} (f : A → B) (cmp : B → B → Ordering) where
  map_if : (b : Bool) (x y : A) (ys zs : List A) (us : List B) → us ≡ map f zs → (if b then f y ∷ us else f x ∷ f y ∷ map f ys) ≡ map f (if b then y ∷ zs else x ∷ y ∷ ys)
  map_if true x y ys zs us e = ap (λ l. f y ∷ l) e
  map_if false x y ys zs us e = refl

  put_map : (x : A) (ys : List A) → put_in cmp (f x) (map f ys) ≡ map f (put_in (λ a b. cmp (f a) (f b)) x ys)
  put_map x [] = refl
  put_map x (y ∷ ys) = map_if (is_lt (cmp (f y) (f x))) x y ys (put_in (λ a b. cmp (f a) (f b)) x ys) _ (put_map x ys)

  pub order_map : (xs : List A) → in_order_of cmp (map f xs) ≡ map f (in_order_of (λ a b. cmp (f a) (f b)) xs)
  order_map [] = refl
  order_map (x ∷ xs) = ap (put_in cmp (f x)) (order_map xs) ∙ put_map x (in_order_of (λ a b. cmp (f a) (f b)) xs)

-- ---- what each instance stores, as a function

at_head : {V : Type 0} (t : Bool) (u w : V) → t ≡ true → (if t then u else w) ≡ u
at_head true u w e = refl
at_head false u w e = absurd (true≢false (sym e))

not_head : {V : Type 0} (t : Bool) (u w : V) → (t ≡ true → ⊥) → (if t then u else w) ≡ w
not_head true u w n = absurd (n refl)
not_head false u w n = refl

module _ {I V : Type 0} (same_i : I → I → Bool) (decides : (a b : I) → Decides (same_i a b) (a ≡ b)) (d : V) where
  -- what stands with an instance in lists of instances and of values
  pub value_in : List I → List V → I → V
  value_in [] vs b = d
  value_in (a ∷ is) [] b = d
  value_in (a ∷ is) (v ∷ vs) b = if same_i b a then v else value_in is vs b

  module _ {X : Type 0} (same : X → X → Bool) (effect : I → Effect X V) (start : X → Option V) where
    tail_values : (a : I) (v : V) (is : List I) (vs : List V) (js : List I) → (¬ (IsIn a js)) → as_stored effect (value_in is vs) js ≡ as_stored effect (value_in (a ∷ is) (v ∷ vs)) js
    unfolding value_in
    tail_values a v is vs [] n = refl
    tail_values a v is vs (b ∷ js) n =
        ap (λ u. ((effect b).stores, u) ∷ as_stored effect (value_in is vs) js) (sym (not_head (same_i b a) v (value_in is vs b) (λ t. n (inl (sym ((decides b a).0 t))))))
        ∙ ap (λ l. ((effect b).stores, value_in (a ∷ is) (v ∷ vs) b) ∷ l) (tail_values a v is vs js (λ i. n (inr i)))

    -- the stores of a run of distinct instances, by the values that stand with the instances
    pub stored_values : (w : List (X × V)) (is : List I) (es : List (X × V)) → AreDistinct is → stores_of same start w (map effect is) ≡ Some es
        → es ≡ as_stored effect (value_in is (map (λ e. e.1) es)) is
    unfolding value_in
    stored_values w [] es n e = sym (ap (get []) e)
    stored_values w (b ∷ is) es n e =
        let p = and_then_some (all_held (held same start w) (effect b).loads) _ _ e in
        let x : X × V = ((effect b).stores, (effect b).value p.0) in
        let q = and_then_some (stores_of same start (w ++ x ∷ []) (map effect is)) _ _ p.2 in
        let vs : List V = map (λ e. e.1) q.0 in
        let whole : x ∷ q.0 ≡ es = ap (get []) q.2 in
        let rest : q.0 ≡ as_stored effect (value_in is vs) is = stored_values (w ++ x ∷ []) is q.0 n.1 q.1 in
        let head : x.1 ≡ value_in (b ∷ is) (x.1 ∷ vs) b = sym (at_head (same_i b b) x.1 (value_in is vs b) ((decides b b).1 refl)) in
        subst (λ l. l ≡ as_stored effect (value_in (b ∷ is) (map (λ e. e.1) l)) (b ∷ is)) whole
        (ap (λ u. ((effect b).stores, u) ∷ q.0) head
        ∙ ap (λ l. ((effect b).stores, value_in (b ∷ is) (x.1 ∷ vs) b) ∷ l) (rest ∙ tail_values b x.1 is vs is n.0))
