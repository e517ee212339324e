-- Lists of choices.
use Rattle.std.proofs.Common.{◌≡◌, List, [], ◌∷◌, ◌++◌, map, flat_map, append_assoc, refl, sym, ap, ◌∙◌}
use Rattle.std.proofs.lemmas.List.{append-nil}
use Rattle.affc_rows.specs.Forms.{Affine}
use Rattle.affc_products.specs.Blocks.{choices}
use Rattle.affc_products.proofs.ProductLemmas.{flat_same, map_flat}

-- ---- Maps

pub map_twice : {A B C : Type 0} (f : B → C) (g : A → B) (xs : List A) → map f (map g xs) ≡ map (λ x. f (g x)) xs
map_twice f g [] = refl
map_twice f g (x ∷ xs) = ap (λ ys. f (g x) ∷ ys) (map_twice f g xs)

pub map_same : {A B : Type 0} (f g : A → B) → ((x : A) → f x ≡ g x) → (xs : List A) → map f xs ≡ map g xs
map_same f g h [] = refl
map_same f g h (x ∷ xs) = ap (λ y. y ∷ map f xs) (h x) ∙ ap (λ ys. g x ∷ ys) (map_same f g h xs)

-- one entry more
pub flat_one : {A B : Type 0} (f : A → List B) (xs : List A) (x : A) → flat_map f (xs ++ x ∷ []) ≡ flat_map f xs ++ f x
flat_one f [] x = append-nil (f x)
flat_one f (y ∷ xs) x = ap (λ ys. f y ++ ys) (flat_one f xs x) ∙ sym (append_assoc (f y) (flat_map f xs) (f x))

-- ---- Choices

-- behind these rows those of an alternative and then of the others
pub behind_both : (front u : List Affine) (cs : List (List Affine)) → map (λ c. front ++ c) (map (λ v. u ++ v) cs) ≡ map (λ c. (front ++ u) ++ c) cs
behind_both front u cs = map_twice (λ c. front ++ c) (λ v. u ++ v) cs ∙ map_same (λ v. front ++ (u ++ v)) (λ v. (front ++ u) ++ v) (λ v. sym (append_assoc front u v)) cs

pub first_factor : (front : List Affine) (us : List (List Affine)) (factors : List (List (List Affine)))
    → map (λ c. front ++ c) (choices (us ∷ factors)) ≡ flat_map (λ u. map (λ c. (front ++ u) ++ c) (choices factors)) us
first_factor front us factors =
    map_flat (λ c. front ++ c) (λ u. map (λ v. u ++ v) (choices factors)) us
    ∙ flat_same (λ u. map (λ c. front ++ c) (map (λ v. u ++ v) (choices factors))) (λ u. map (λ c. (front ++ u) ++ c) (choices factors)) (λ u. behind_both front u (choices factors)) us
