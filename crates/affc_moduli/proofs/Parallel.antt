-- Lists that are made side by side.
use Rattle.std.proofs.Common.{◌≡◌, ◌⊎◌, inl, inr, ℕ, zero, suc, List, [], ◌∷◌, ◌++◌, length, ℤ, refl, sym, ap, subst, ◌∙◌}
use Rattle.std.specs.Prelude.{slice_get, Some}
use Rattle.std.proofs.lemmas.Option.{same_Some}
use Rattle.affc_rows.specs.Forms.{Affine, value}
use Rattle.affc_conflicts.specs.differences.Differences.{apart, IsSmall}
use Rattle.affc_moduli.specs.Slices.{AreParallel}
use Rattle.affc_moduli.specs.Distances.{IsDifference}

pub pushed : {X : Type 0} (xs : List X) (x : X) (i : ℕ) (y : X) → slice_get (xs ++ x ∷ []) i ≡ Some y → (slice_get xs i ≡ Some y) ⊎ ((i ≡ length xs) × (x ≡ y))
pushed [] x zero y e = inr (refl, same_Some x y e)
pushed [] x (suc i) y e = cc
pushed (z ∷ zs) x zero y e = inl e
pushed (z ∷ zs) x (suc i) y e = elim (pushed zs x i y e) [ inl h ↦ inl h | inr h ↦ inr (ap suc h.0, h.1) ]

pub one_more : {A B : Type 0} (P : A → B → Type 0) (xs : List A) (ys : List B) (a : A) (b : B) → slice_get xs (length ys) ≡ Some a → P a b → AreParallel P xs ys → AreParallel P xs (ys ++ b ∷ [])
one_more P xs ys a b at p before i c d at_c at_d = elim (pushed ys b i d at_d) [
  | inl h ↦ before i c d at_c h
  | inr h ↦
      let same : a ≡ c = same_Some a c (sym at ∙ ap (slice_get xs) (sym h.0) ∙ at_c) in
      subst (λ v. P c v) h.1 (subst (λ u. P u b) same p)
]

pub difference_is : (columns col : ℕ) (cs : List ℤ) (xs ys xs' ys' : List Affine) (f : Affine) → col ≡ columns → xs' ≡ xs → ys' ≡ ys → IsSmall col 4 f → ((z : List ℤ) → length z ≡ col → value f z ≡ apart cs xs' ys' z)
    → IsDifference columns cs xs ys f
difference_is columns col cs xs ys xs' ys' f e a b small holds = record {
  small = subst (λ n. IsSmall n 4 f) e small;
  holds = λ z len. holds z (len ∙ sym e) ∙ ap (λ u. apart cs u ys' z) a ∙ ap (λ u. apart cs xs u z) b;
}
