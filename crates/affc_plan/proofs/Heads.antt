-- The first of several lists.
use Rattle.std.proofs.Common.{◌≡◌, ℕ, ◌+◌, ◌<◌, ◌≤◌, List, [], ◌∷◌, ◌++◌, length, drop, get_or, Option, Some, None, refl, sym, ap, ◌∙◌}
use Rattle.std.proofs.lemmas.List.{drop_all}
use Rattle.affc_schedtext.proofs.Walks.{front}
use Rattle.affc_plan.specs.Lines.{head}

abbrev pub first_of : {A : Type 0} → Option A → Option A → Option A
first_of None other = other
first_of (Some x) other = Some x

-- the first stands in the first list
pub head_left : {A : Type 0} (xs ys : List A) (x : A) → Some x ≡ head xs → Some x ≡ head (xs ++ ys)
head_left [] ys x e = absurd (cc)
head_left (z ∷ xs) ys x e = e

-- or in the second, where the first has none
pub head_right : {A : Type 0} (xs ys : List A) (o : Option A) → None ≡ head xs → o ≡ head ys → o ≡ head (xs ++ ys)
head_right [] ys o e h = h
head_right (z ∷ xs) ys o e h = absurd (cc)

pub none_there : {A : Type 0} (xs : List A) → head xs ≡ None → xs ≡ []
none_there [] e = refl
none_there (x ∷ xs) e = absurd (cc)

pub head_is : {A : Type 0} (xs : List A) (x : A) → head xs ≡ Some x → (others : List A) × (xs ≡ x ∷ others)
head_is [] x e = absurd (cc)
head_is (z ∷ xs) x e = let same : z ≡ x = cc in (xs, ap (λ y. y ∷ xs) same)

-- what is said of the rest of a list, as a loop goes on
module _ {A B : Type 0} (f : List A → B) (xs : List A) (w : B) where
  pub turn_here : (i : ℕ) (x : A) (v : B) → i < length xs → x ≡ get_or xs i x → f (drop i xs) ≡ w → v ≡ f (x ∷ drop (i + 1) xs) → v ≡ w
  turn_here i x v lt e h g = g ∙ ap f (sym (front xs i x lt e)) ∙ h

  pub turn_on : (i : ℕ) (x : A) → i < length xs → x ≡ get_or xs i x → f (drop i xs) ≡ w → f (x ∷ drop (i + 1) xs) ≡ f (drop (i + 1) xs) → f (drop (i + 1) xs) ≡ w
  turn_on i x lt e h g = sym g ∙ ap f (sym (front xs i x lt e)) ∙ h

  pub turn_end : (i : ℕ) → length xs ≤ i → f (drop i xs) ≡ w → f [] ≡ w
  turn_end i le h = ap f (sym (drop_all i xs le)) ∙ h

pub ruleset heads = (head_left, head_right)
