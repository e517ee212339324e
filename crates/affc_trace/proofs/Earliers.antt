-- What stands before what in lists that are put together.
use Rattle.std.proofs.Common.{◌≡◌, T, List, [], ◌∷◌, ◌++◌, map, flat_map, sym, ap, subst, ◌∙◌, ◌⊎◌, inl, inr, refl, Ordering}
use Rattle.std.specs.declared.cmp.Ordering.TheVariants.{Less}
use Rattle.std.specs.Ordering.{is_lt}
use Rattle.std.specs.Cmp.{IsTotalOrder, tied_itself}
use Rattle.affc_trace.specs.Law.{IsIn}
use Rattle.affc_trace.specs.Orders.{Earlier, AreDistinct}
use Rattle.affc_trace.proofs.Once.{in_append, in_flat_map}
use Rattle.affc_trace.proofs.Members.{to_first, to_second, in_map}

-- ---- Two lists one after the other

pub earlier_append : {I : Type 0} (xs ys : List I) (a b : I) → Earlier (xs ++ ys) a b → Earlier xs a b ⊎ ((IsIn a xs × IsIn b ys) ⊎ Earlier ys a b)
earlier_append [] ys a b e = inr (inr e)
earlier_append (x ∷ xs) ys a b (inl h) = elim (in_append xs ys b h.1) [ inl i ↦ inl (inl (h.0, i)) | inr i ↦ inr (inl (inl h.0, i)) ]
earlier_append (x ∷ xs) ys a b (inr e) = elim (earlier_append xs ys a b e) [
  | inl h ↦ inl (inr h)
  | inr q ↦ elim q [ inl h ↦ inr (inl (inr h.0, h.1)) | inr h ↦ inr (inr h) ]
]

pub earlier_across : {I : Type 0} (xs ys : List I) (a b : I) → IsIn a xs → IsIn b ys → Earlier (xs ++ ys) a b
earlier_across [] ys a b i j = absurd i
earlier_across (x ∷ xs) ys a b (inl e) j = inl (e, to_second xs ys b j)
earlier_across (x ∷ xs) ys a b (inr i) j = inr (earlier_across xs ys a b i j)

pub earlier_first : {I : Type 0} (xs ys : List I) (a b : I) → Earlier xs a b → Earlier (xs ++ ys) a b
earlier_first [] ys a b e = absurd e
earlier_first (x ∷ xs) ys a b (inl h) = inl (h.0, to_first xs ys b h.1)
earlier_first (x ∷ xs) ys a b (inr e) = inr (earlier_first xs ys a b e)

pub earlier_second : {I : Type 0} (xs ys : List I) (a b : I) → Earlier ys a b → Earlier (xs ++ ys) a b
earlier_second [] ys a b e = e
earlier_second (x ∷ xs) ys a b e = inr (earlier_second xs ys a b e)

-- ---- A list for each entry of another

-- in one of the lists, or in two of them in this order
pub earlier_flat_map : {A I : Type 0} (f : A → List I) (xs : List A) (a b : I) → Earlier (flat_map f xs) a b
    → ((x : A) × IsIn x xs × Earlier (f x) a b) ⊎ ((x : A) × (y : A) × Earlier xs x y × IsIn a (f x) × IsIn b (f y))
earlier_flat_map f [] a b e = absurd e
earlier_flat_map f (x ∷ xs) a b e = elim (earlier_append (f x) (flat_map f xs) a b e) [
  | inl g ↦ inl (x, inl refl, g)
  | inr g ↦ elim g [
    | inl h ↦ let r = in_flat_map f xs b h.1 in inr (x, r.0, inl (refl, r.1), h.0, r.2)
    | inr h ↦ elim (earlier_flat_map f xs a b h) [
      | inl k ↦ inl (k.0, inr k.1, k.2)
      | inr k ↦ inr (k.0, k.1, inr k.2, k.3, k.4)
    ]
  ]
]

pub earlier_map : {A B : Type 0} (f : A → B) (xs : List A) (a b : B) → Earlier (map f xs) a b → (x : A) × (y : A) × Earlier xs x y × (a ≡ f x) × (b ≡ f y)
earlier_map f [] a b e = absurd e
earlier_map f (x ∷ xs) a b (inl e) = let r = in_map f xs b e.1 in (x, r.0, inl (refl, r.1), e.0, r.2)
earlier_map f (x ∷ xs) a b (inr e) = let r = earlier_map f xs a b e in (r.0, r.1, inr r.2, r.3, r.4)

-- ---- Lists in increasing order

-- each is less than those after it
abbrev pub Rises : {A : Type 0} → (A → A → Ordering) → List A → Type 0
Rises {A} cmp ys = (a b : A) → Earlier ys a b → cmp a b ≡ Less

pub rises_flat_map : {A I : Type 0} (cmp : I → I → Ordering) (f : A → List I) (xs : List A)
    → ((x : A) → IsIn x xs → Rises cmp (f x))
    → ((x y : A) (a b : I) → Earlier xs x y → IsIn a (f x) → IsIn b (f y) → cmp a b ≡ Less)
    → Rises cmp (flat_map f xs)
rises_flat_map cmp f xs in_part parts a b e = elim (earlier_flat_map f xs a b e) [
  | inl g ↦ in_part g.0 g.1 a b g.2
  | inr g ↦ parts g.0 g.1 a b g.2 g.3 g.4
]

pub rising_are_distinct : {A : Type 0} (cmp : A → A → Ordering) → IsTotalOrder cmp → (ys : List A) → Rises cmp ys → AreDistinct ys
rising_are_distinct cmp total [] r = tt
rising_are_distinct cmp total (y ∷ ys) r =
    (λ i. subst T (ap is_lt (sym (r y y (inl (refl, i))) ∙ tied_itself total y)) tt, rising_are_distinct cmp total ys (λ a b e. r a b (inr e)))
