-- Insertion puts distinct entries in increasing order, and no other list of them is so.
use Rattle.std.proofs.Common.{◌≡◌, ◌≢◌, Bool, true, false, if◌then◌else◌, List, [], ◌∷◌, refl, sym, ap, subst, ◌∙◌, inl, inr, Ordering, T}
use Rattle.std.specs.declared.cmp.Ordering.TheVariants.{Less, Equal, Greater}
use Rattle.std.specs.Ordering.{is_lt, ordering_reverse}
use Rattle.std.specs.Cmp.{IsTotalOrder}
use Rattle.affc_trace.specs.Law.{IsIn}
use Rattle.affc_trace.specs.Orders.{Earlier, AreDistinct}
use Rattle.affc_trace.specs.Target.{put_in, in_order_of, IsInOrder}
use Rattle.affc_trace.proofs.Legality.{either_way}
use Rattle.affc_trace.proofs.Reorders.{from_put, from_order, is_reordered}

is_less : (r : Ordering) → is_lt r ≡ true → r ≡ Less
is_less Less e = refl
is_less Equal e = absurd (subst T (sym e) tt)
is_less Greater e = absurd (subst T (sym e) tt)

is_greater : (r : Ordering) → is_lt r ≡ false → r ≢ Equal → r ≡ Greater
is_greater Less e n = absurd (subst T e tt)
is_greater Equal e n = absurd (n refl)
is_greater Greater e n = refl

less_not_greater : (r : Ordering) → r ≡ Less → ordering_reverse r ≡ Less → ⊥
less_not_greater r e f = subst T (ap is_lt (sym f ∙ ap ordering_reverse e)) tt

module _ {A : Type 0} (cmp : A → A → Ordering) (total : IsTotalOrder cmp) where
  abbrev pub Increasing : List A → Type 0
  Increasing ys = (a b : A) → Earlier ys a b → cmp a b ≡ Less

  not_both : (a b : A) → cmp a b ≡ Less → cmp b a ≡ Less → ⊥
  not_both a b e f = less_not_greater (cmp b a) f (sym (total.antisymm a b) ∙ e)

  put_cases : (x y : A) (ys : List A) (b : Bool) → is_lt (cmp y x) ≡ b → (cmp y x ≢ Equal) → Increasing (y ∷ ys) → Increasing (put_in cmp x ys)
      → Increasing (if b then y ∷ put_in cmp x ys else x ∷ y ∷ ys)
  put_cases x y ys true e n all rest a c (inl f) =
      elim (from_put cmp x c ys f.1) [
        | inl q ↦ ap (λ z. cmp z c) f.0 ∙ ap (cmp y) q ∙ is_less (cmp y x) e
        | inr i ↦ all a c (inl (f.0, i))
      ]
  put_cases x y ys true e n all rest a c (inr f) = rest a c f
  put_cases x y ys false e n all rest a c (inl f) =
      let before : cmp x y ≡ Less = total.antisymm x y ∙ ap ordering_reverse (is_greater (cmp y x) e n) in
      ap (λ z. cmp z c) f.0 ∙ elim f.1 [
        | inl q ↦ ap (cmp x) q ∙ before
        | inr i ↦ total.trans x y c before (all y c (inl (refl, i)))
      ]
  put_cases x y ys false e n all rest a c (inr f) = all a c f

  put_increasing : (x : A) (ys : List A) → ((y : A) → IsIn y ys → cmp y x ≢ Equal) → Increasing ys → Increasing (put_in cmp x ys)
  put_increasing x [] n all a b (inl f) = absurd f.1
  put_increasing x [] n all a b (inr f) = absurd f
  put_increasing x (y ∷ ys) n all a b f =
      put_cases x y ys (is_lt (cmp y x)) refl (n y (inl refl)) all (put_increasing x ys (λ z i. n z (inr i)) (λ a b g. all a b (inr g))) a b f

  order_increasing : (xs : List A) → AreDistinct xs → ((a b : A) → IsIn a xs → IsIn b xs → a ≢ b → cmp a b ≢ Equal) → Increasing (in_order_of cmp xs)
  order_increasing [] d n a b f = absurd f
  order_increasing (x ∷ xs) d n a b f =
      put_increasing x (in_order_of cmp xs)
      (λ y i. let j = from_order cmp y xs i in n y x (inr j) (inl refl) (λ e. d.0 (subst (λ z. IsIn z xs) e j)))
      (order_increasing xs d.1 (λ a b i j. n a b (inr i) (inr j))) a b f

  pub in_order : (xs : List A) → AreDistinct xs → ((a b : A) → IsIn a xs → IsIn b xs → a ≢ b → cmp a b ≢ Equal) → IsInOrder cmp xs (in_order_of cmp xs)
  in_order xs d n = record { reordered = is_reordered cmp xs d; increasing = order_increasing xs d n }

  -- ---- the only such list

  pub one_list : (ys zs : List A) → AreDistinct ys → AreDistinct zs → ((a : A) → IsIn a ys → IsIn a zs) → ((a : A) → IsIn a zs → IsIn a ys)
      → Increasing ys → Increasing zs → ys ≡ zs
  one_list [] [] d e f g s t = refl
  one_list [] (z ∷ zs) d e f g s t = absurd (g z (inl refl))
  one_list (y ∷ ys) [] d e f g s t = absurd (f y (inl refl))
  one_list (y ∷ ys) (z ∷ zs) d e f g s t =
      let first : y ≡ z = elim (f y (inl refl)) [
        | inl q ↦ q
        | inr i ↦ elim (g z (inl refl)) [
          | inl q ↦ sym q
          | inr j ↦ absurd (not_both y z (s y z (inl (refl, j))) (t z y (inl (refl, i))))
        ]
      ] in
      let tails : ys ≡ zs = one_list ys zs d.1 e.1
      (λ a i. elim (f a (inr i)) [ inl q ↦ absurd (d.0 (subst (λ u. IsIn u ys) (q ∙ sym first) i)) | inr j ↦ j ])
      (λ a i. elim (g a (inr i)) [ inl q ↦ absurd (e.0 (subst (λ u. IsIn u zs) (q ∙ first) i)) | inr j ↦ j ])
      (λ a b h. s a b (inr h)) (λ a b h. t a b (inr h)) in
      ap (λ u. u ∷ ys) first ∙ ap (λ l. z ∷ l) tails

  pub only_order : (xs ys zs : List A) → IsInOrder cmp xs ys → IsInOrder cmp xs zs → ys ≡ zs
  only_order xs ys zs h k =
      one_list ys zs h.reordered.once_in_target k.reordered.once_in_target
      (λ a i. k.reordered.kept a (h.reordered.no_other a i)) (λ a i. h.reordered.kept a (k.reordered.no_other a i)) h.increasing k.increasing

  -- of two entries, the one that is less stands before the other
  pub less_is_earlier : (xs ys : List A) → IsInOrder cmp xs ys → (a b : A) → IsIn a xs → IsIn b xs → cmp a b ≡ Less → Earlier ys a b
  less_is_earlier xs ys h a b i j less =
      let apart : a ≢ b = λ e. not_both a b less (ap (λ z. cmp z a) (sym e) ∙ ap (cmp a) e ∙ less) in
      elim (either_way ys a b apart (h.reordered.kept a i) (h.reordered.kept b j)) [
        | inl e ↦ e
        | inr e ↦ absurd (not_both a b less (h.increasing b a e))
      ]
