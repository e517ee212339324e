-- Lists that are empty, as those of the places at which a rule is broken.
use Rattle.std.proofs.Common.{◌≡◌, ℕ, Bool, true, false, not, List, [], ◌∷◌, ◌++◌, map, flat_map, refl}
use Rattle.affc_grammar.specs.Limits.{at_if}

pub none_left : {A : Type 0} (xs ys : List A) → xs ++ ys ≡ [] → xs ≡ []
none_left [] ys e = refl
none_left (x ∷ xs) ys e = absurd (cc)

pub none_right : {A : Type 0} (xs ys : List A) → xs ++ ys ≡ [] → ys ≡ []
none_right [] ys e = e
none_right (x ∷ xs) ys e = absurd (cc)

pub map_none : {A B : Type 0} (f : A → B) (xs : List A) → map f xs ≡ [] → xs ≡ []
map_none f [] e = refl
map_none f (x ∷ xs) e = absurd (cc)

pub flat_middle : {A B : Type 0} (f : A → List B) (xs : List A) (x : A) (ys : List A) → flat_map f (xs ++ x ∷ ys) ≡ [] → f x ≡ []
flat_middle f [] x ys e = none_left (f x) (flat_map f ys) e
flat_middle f (y ∷ xs) x ys e = flat_middle f xs x ys (none_right (f y) (flat_map f (xs ++ x ∷ ys)) e)

pub kept_if : (b : Bool) (at : ℕ) → at_if (not b) at ≡ [] → b ≡ true
kept_if true at e = refl
kept_if false at e = absurd (cc)
