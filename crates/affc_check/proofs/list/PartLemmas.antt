-- Items put behind others, part by part, and the first part that passes.
use Rattle.std.proofs.Common.{◌≡◌, ℕ, zero, suc, ◌+◌, ◌<◌, List, [], ◌∷◌, ◌++◌, flat_map, Some, refl, sym, ap, subst, inl, inr, arith, ◌∙◌}
use Rattle.std.specs.Prelude.{slice_get}
use Rattle.std.proofs.lemmas.Option.{same_Some, none-some}
use Rattle.affc_trace.specs.Law.{IsIn}
use Rattle.affc_trace.proofs.EndedReads.{append_assoc}
use Rattle.affc_trace.proofs.LastStores.{append_nil}
use Rattle.affc_trace.proofs.Once.{in_append}
use Rattle.affc_check.specs.list.Items.{Item, Question}
use Rattle.affc_check.specs.list.Limits.{AnyPasses, IsFirst, HoldsOfNone}
use Rattle.affc_check.specs.list.Listed.{AreListed, PartsListed, IsFirstPart}

-- ---- The first of a list

pub none_of_nil : {A : Type 0} (P : A → Type 0) → HoldsOfNone P []
none_of_nil P = record { none = λ k x e. absurd (none-some x e) }

none_at : {A : Type 0} (P : A → Type 0) (x : A) (xs : List A) → ¬ (P x) → HoldsOfNone P xs → (k : ℕ) (y : A) → slice_get (x ∷ xs) k ≡ Some y → ¬ (P y)
none_at P x xs n h zero y e = λ p. n (subst P (sym (same_Some x y e)) p)
none_at P x xs n h (suc k) y e = h.none k y e

pub none_cons : {A : Type 0} (P : A → Type 0) (x : A) (xs : List A) → ¬ (P x) → HoldsOfNone P xs → HoldsOfNone P (x ∷ xs)
none_cons P x xs n h = record { none = none_at P x xs n h }

pub first_here : {A : Type 0} (P : A → Type 0) (x : A) (xs : List A) → P x → IsFirst P (x ∷ xs) 0
first_here P x xs p = record { item = x; there = refl; holds = p; before = λ k y l e. absurd (omega (arith, l)) }

before_later : {A : Type 0} (P : A → Type 0) (x : A) (xs : List A) (k : ℕ) → ¬ (P x) → IsFirst P xs k → (j : ℕ) (y : A) → j < suc k → slice_get (x ∷ xs) j ≡ Some y → ¬ (P y)
before_later P x xs k n f zero y l e = λ p. n (subst P (sym (same_Some x y e)) p)
before_later P x xs k n f (suc j) y l e = f.before j y (omega (arith, l)) e

pub first_later : {A : Type 0} (P : A → Type 0) (x : A) (xs : List A) (k : ℕ) → ¬ (P x) → IsFirst P xs k → IsFirst P (x ∷ xs) (suc k)
first_later P x xs k n f = record { item = f.item; there = f.there; holds = f.holds; before = before_later P x xs k n f }

-- ---- Items that pass

pub in_before : {A : Type 0} (x : A) (xs ys : List A) → IsIn x xs → IsIn x (xs ++ ys)
in_before x [] ys i = absurd i
in_before x (z ∷ zs) ys i = elim i [ inl e ↦ inl e | inr more ↦ inr (in_before x zs ys more) ]

pub in_behind : {A : Type 0} (x : A) (xs ys : List A) → IsIn x ys → IsIn x (xs ++ ys)
in_behind x [] ys i = i
in_behind x (z ∷ zs) ys i = inr (in_behind x zs ys i)

pub passes_front : (xs ys : List Item) → AnyPasses xs → AnyPasses (xs ++ ys)
passes_front xs ys a = record { question = a.question; there = in_before (Question a.question) xs ys a.there; passes = a.passes }

pub passes_behind : (xs ys : List Item) → AnyPasses ys → AnyPasses (xs ++ ys)
passes_behind xs ys a = record { question = a.question; there = in_behind (Question a.question) xs ys a.there; passes = a.passes }

pub neither_passes : (xs ys : List Item) → ¬ (AnyPasses xs) → ¬ (AnyPasses ys) → ¬ (AnyPasses (xs ++ ys))
neither_passes xs ys h g = λ (a : AnyPasses (xs ++ ys)).
    elim (in_append xs ys (Question a.question) a.there) [
      | inl i ↦ h (record { question = a.question; there = i; passes = a.passes })
      | inr i ↦ g (record { question = a.question; there = i; passes = a.passes })
    ]

-- ---- Items that are put behind

pub listed_twice : (a b c xs ys : List Item) → AreListed a b xs → AreListed b c ys → AreListed a c (xs ++ ys)
listed_twice a b c xs ys h g = record {
  put = g.put ∙ ap (λ z. z ++ ys) h.put ∙ append_assoc a xs ys;
  within = neither_passes xs ys h.within g.within;
}

-- items of a list that is parted
module _ {A : Type 0} (L : List A → List Item) (add : (xs ys : List A) → L (xs ++ ys) ≡ L xs ++ L ys) (all first others : List A) (parted : all ≡ first ++ others) where
  pub half_first : AnyPasses (L first) → AnyPasses (L all)
  half_first h = subst (λ xs. AnyPasses (L xs)) (sym parted) (subst AnyPasses (sym (add first others)) (passes_front (L first) (L others) h))

  pub half_others : AnyPasses (L others) → AnyPasses (L all)
  half_others h = subst (λ xs. AnyPasses (L xs)) (sym parted) (subst AnyPasses (sym (add first others)) (passes_behind (L first) (L others) h))

  pub both_halves : (a b c : List Item) → AreListed a b (L first) → AreListed b c (L others) → AreListed a c (L all)
  both_halves a b c h g = subst (λ xs. AreListed a c (L xs)) (sym parted) (subst (AreListed a c) (sym (add first others)) (listed_twice a b c (L first) (L others) h g))

pub no_parts : (old : List Item) → PartsListed old old []
no_parts old = record { put = sym (append_nil old); within = none_of_nil AnyPasses }

pub part_listed : (a b c xs : List Item) (parts : List (List Item)) → AreListed a b xs → PartsListed b c parts → PartsListed a c (xs ∷ parts)
part_listed a b c xs parts h g = record {
  put = g.put ∙ ap (λ z. z ++ flat_map (λ items. items) parts) h.put ∙ append_assoc a xs (flat_map (λ items. items) parts);
  within = none_cons AnyPasses xs parts h.within g.within;
}

-- ---- The first part

pub part_here : {A : Type 0} (P : A → Type 0) (first n : ℕ) (x : A) (parts : List A) → n ≡ first → P x → IsFirstPart P first (x ∷ parts) n
part_here P first n x parts e a = record { number = 0; is = omega (arith, e); holds = first_here P x parts a }

pub part_later : {A : Type 0} (P : A → Type 0) (first next n : ℕ) (x : A) (parts : List A) → next ≡ first + 1 → ¬ (P x) → IsFirstPart P next parts n → IsFirstPart P first (x ∷ parts) n
part_later P first next n x parts e clear h = record { number = suc h.number; is = omega (arith, e, h.is); holds = first_later P x parts h.number clear h.holds }
