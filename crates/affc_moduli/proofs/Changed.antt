-- Lists whose elements are changed one after another.
use Rattle.std.proofs.Common.{◌≡◌, ◌⊎◌, inl, inr, ℕ, zero, suc, ◌+◌, ◌<◌, ◌≤◌, List, [], ◌∷◌, length, set, refl, sym, ap, subst, ◌∙◌, arith}
use Rattle.std.specs.Prelude.{slice_get, Some}
use Rattle.std.proofs.lemmas.Option.{same_Some, slice_get_within}
use Rattle.affc_moduli.specs.Slices.{AreChanged}

pub none_changed : {A : Type 0} (P : ℕ → A → A → Type 0) (xs : List A) → AreChanged P 0 xs xs
none_changed P xs = record { one_each = refl; changed = λ i a b h. absurd (omega arith); left = λ i h. refl }

length-set : {A : Type 0} (xs : List A) (i : ℕ) (x : A) → length (set xs i x) ≡ length xs
length-set [] i x = refl
length-set (y ∷ ys) zero x = refl
length-set (y ∷ ys) (suc i) x = ap suc (length-set ys i x)

at_place : {A : Type 0} (xs : List A) (i : ℕ) (x y : A) → slice_get (set xs i x) i ≡ Some y → x ≡ y
at_place [] i x y e = cc
at_place (z ∷ zs) zero x y e = same_Some x y e
at_place (z ∷ zs) (suc i) x y e = at_place zs i x y e

elsewhere : {A : Type 0} (xs : List A) (i j : ℕ) (x : A) → (i ≡ j → ⊥) → slice_get (set xs i x) j ≡ slice_get xs j
elsewhere [] i j x n = refl
elsewhere (z ∷ zs) zero zero x n = absurd (n refl)
elsewhere (z ∷ zs) zero (suc j) x n = refl
elsewhere (z ∷ zs) (suc i) zero x n = refl
elsewhere (z ∷ zs) (suc i) (suc j) x n = elsewhere zs i j x (λ e. n (ap suc e))

below_or_at : (i n : ℕ) → i < n + 1 → (i < n) ⊎ (n ≡ i)
below_or_at zero zero h = inr refl
below_or_at zero (suc n) h = inl (omega arith)
below_or_at (suc i) zero h = absurd (omega arith)
below_or_at (suc i) (suc n) h = elim (below_or_at i n (omega arith)) [ inl l ↦ inl (omega arith) | inr e ↦ inr (ap suc e) ]

-- one element more is changed
pub changed_more : {A : Type 0} (P : ℕ → A → A → Type 0) (n : ℕ) (before now : List A) (a b : A) → slice_get now n ≡ Some a → P n a b → AreChanged P n before now → AreChanged P (n + 1) before (set now n b)
changed_more P n before now a b at this so_far = record {
  one_each = length-set now n b ∙ so_far.one_each;
  changed = λ i c d h at_c at_d. elim (below_or_at i n h) [
    | inl l ↦ so_far.changed i c d l at_c (sym (elsewhere now n i b (λ e. absurd (omega arith))) ∙ at_d)
    | inr e ↦
        let here : slice_get before n ≡ Some c = ap (slice_get before) e ∙ at_c in
        let same : a ≡ c = same_Some a c (sym at ∙ so_far.left n (omega arith) ∙ here) in
        let new : b ≡ d = at_place now n b d (ap (slice_get (set now n b)) e ∙ at_d) in
        subst (λ j. P j c d) e (subst (λ u. P n u d) same (subst (λ v. P n a v) new this))
  ];
  left = λ i h. elsewhere now n i b (λ e. absurd (omega arith)) ∙ so_far.left i (omega arith);
}

-- all of them are changed
pub all_changed : {A : Type 0} (P : ℕ → A → A → Type 0) (n : ℕ) (before after : List A) → length before ≤ n → AreChanged P n before after → (i : ℕ) (a b : A) → slice_get before i ≡ Some a → slice_get after i ≡ Some b → P i a b
all_changed P n before after h so_far i a b at_a at_b = so_far.changed i a b (let l = slice_get_within before i a at_a in omega arith) at_a at_b
