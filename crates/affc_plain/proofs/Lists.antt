-- Lists of which nothing is left, and tests.
use Rattle.std.proofs.Common.{◌≡◌, ℕ, ◌≤◌, Bool, true, false, List, [], ◌∷◌, ◌++◌, length, drop, map, refl, sym, ap, ◌∙◌, arith, length-drop}
use Rattle.std.specs.Prelude.{filter, if◌then◌else◌, not}
use Rattle.std.proofs.lemmas.Bool.{false≢true}

pub no_append : {A : Type 0} (xs ys : List A) → xs ++ ys ≡ [] → (xs ≡ []) × (ys ≡ [])
no_append [] ys e = (refl, e)
no_append (x ∷ xs) ys e = absurd (cc)

pub few_left : {A : Type 0} (n : ℕ) (xs : List A) → drop n xs ≡ [] → length xs ≤ n
few_left n xs e = omega (arith, length-drop n xs, ap length e)

pub none_mapped : {A B : Type 0} (f : A → B) (xs : List A) → map f xs ≡ [] → xs ≡ []
none_mapped f [] e = refl
none_mapped f (x ∷ xs) e = absurd (cc)

module _ {A : Type 0} (p : A → Bool) where
  pub filter_none : (x : A) (xs : List A) → filter p (x ∷ xs) ≡ [] → (p x ≡ false) × (filter p xs ≡ [])
  filter_none x xs e = by (p x) refl e
    where
      by : (t : Bool) → p x ≡ t → (if t then x ∷ filter p xs else filter p xs) ≡ [] → (p x ≡ false) × (filter p xs ≡ [])
      by true h e = absurd (cc)
      by false h e = (h, e)

  pub filter_parts : (xs ys : List A) → filter p (xs ++ ys) ≡ [] → (filter p xs ≡ []) × (filter p ys ≡ [])
  filter_parts [] ys e = (refl, e)
  filter_parts (x ∷ xs) ys e =
      let a = filter_none x (xs ++ ys) e in
      let b = filter_parts xs ys a.1 in
      (ap (λ t. if t then x ∷ filter p xs else filter p xs) a.0 ∙ b.0, b.1)

pub is_not : (t : Bool) → not t ≡ false → t ≡ true
is_not true e = refl
is_not false e = absurd (false≢true (sym e))
