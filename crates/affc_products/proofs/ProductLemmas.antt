-- What the choices of products are.
use Rattle.std.proofs.Common.{zero, suc, ◌≡◌, ℕ, List, [], ◌∷◌, ◌++◌, map, flat_map, Some, refl, sym, ap, subst, ◌∙◌}
use Rattle.std.specs.Prelude.{slice_get}
use Rattle.std.specs.List.{All}
use Rattle.std.proofs.lemmas.List.Elements.{All-head, All-tail}
use Rattle.std.proofs.lemmas.List.Concat.{flat_map-append}
use Rattle.affc_rows.specs.Forms.{Affine}
use Rattle.affc_system.specs.Systems.{Rows}
use Rattle.affc_products.specs.Blocks.{AnyPast}
use Rattle.affc_products.specs.Groups.{group_systems}
use Rattle.affc_products.specs.Parts.{IsWithin}
use Rattle.affc_products.specs.Products.{choices, product}
use Rattle.affc_products.specs.declared.group.Group.{Group}

nil_right : {A : Type 0} (xs : List A) → xs ++ [] ≡ xs
nil_right [] = refl
nil_right (x ∷ xs) = ap (λ ys. x ∷ ys) (nil_right xs)

assoc : {A : Type 0} (xs ys zs : List A) → (xs ++ ys) ++ zs ≡ xs ++ (ys ++ zs)
assoc [] ys zs = refl
assoc (x ∷ xs) ys zs = ap (λ s. x ∷ s) (assoc xs ys zs)

-- a map of the same values
map_same : {A B : Type 0} (f g : A → B) → ((x : A) → f x ≡ g x) → (xs : List A) → map f xs ≡ map g xs
map_same f g e [] = refl
map_same f g e (x ∷ xs) = ap (λ y. y ∷ map f xs) (e x) ∙ ap (λ ys. g x ∷ ys) (map_same f g e xs)

pub flat_same : {A B : Type 0} (f g : A → List B) → ((x : A) → f x ≡ g x) → (xs : List A) → flat_map f xs ≡ flat_map g xs
flat_same f g e [] = refl
flat_same f g e (x ∷ xs) = ap (λ y. y ++ flat_map f xs) (e x) ∙ ap (λ ys. g x ++ ys) (flat_same f g e xs)

map_over : {A B : Type 0} (f : A → B) (xs ys : List A) → map f (xs ++ ys) ≡ map f xs ++ map f ys
map_over f [] ys = refl
map_over f (x ∷ xs) ys = ap (λ s. f x ∷ s) (map_over f xs ys)

pub map_flat : {A B C : Type 0} (f : B → C) (g : A → List B) (xs : List A) → map f (flat_map g xs) ≡ flat_map (λ x. map f (g x)) xs
map_flat f g [] = refl
map_flat f g (x ∷ xs) = map_over f (g x) (flat_map g xs) ∙ ap (λ ys. map f (g x) ++ ys) (map_flat f g xs)

flat_flat : {A B C : Type 0} (f : B → List C) (g : A → List B) (xs : List A) → flat_map f (flat_map g xs) ≡ flat_map (λ x. flat_map f (g x)) xs
flat_flat f g [] = refl
flat_flat f g (x ∷ xs) = flat_map-append f (g x) (flat_map g xs) ∙ ap (λ ys. flat_map f (g x) ++ ys) (flat_flat f g xs)

pub flat_after : {A B C : Type 0} (f : B → List C) (g : A → B) (xs : List A) → flat_map f (map g xs) ≡ flat_map (λ x. f (g x)) xs
flat_after f g [] = refl
flat_after f g (x ∷ xs) = ap (λ ys. f (g x) ++ ys) (flat_after f g xs)

-- ---- Choices

-- of one factor, its alternatives
pub choices_of_one : (us : List (List Affine)) → choices (us ∷ []) ≡ us
choices_of_one [] = refl
choices_of_one (u ∷ us) = ap (λ v. v ∷ choices (us ∷ [])) (nil_right u) ∙ ap (λ vs. u ∷ vs) (choices_of_one us)

-- of two, each of the second behind each of the first
pub choices_of_two : (us vs : List (List Affine)) → choices (us ∷ vs ∷ []) ≡ flat_map (λ u. map (λ v. u ++ v) vs) us
choices_of_two us vs = flat_same (λ u. map (λ v. u ++ v) (choices (vs ∷ []))) (λ u. map (λ v. u ++ v) vs) (λ u. ap (map (λ v. u ++ v)) (choices_of_one vs)) us

same_map : (ts : List (List Affine)) → map (λ t. [] ++ t) ts ≡ ts
same_map [] = refl
same_map (t ∷ ts) = ap (λ s. t ∷ s) (same_map ts)

deeper : (u c : List Affine) (ts : List (List Affine)) → map (λ v. u ++ v) (map (λ t. c ++ t) ts) ≡ map (λ t. (u ++ c) ++ t) ts
deeper u c [] = refl
deeper u c (t ∷ ts) = ap (λ w. w ∷ map (λ v. u ++ v) (map (λ t. c ++ t) ts)) (sym (assoc u c t)) ∙ ap (λ ws. ((u ++ c) ++ t) ∷ ws) (deeper u c ts)

behind_one : (fs : List (List (List Affine))) (ts : List (List Affine)) (rest : List (List Affine)) → rest ≡ flat_map (λ c. map (λ t. c ++ t) ts) (choices fs) → (u : List Affine)
    → map (λ v. u ++ v) rest ≡ flat_map (λ c. map (λ t. c ++ t) ts) (map (λ v. u ++ v) (choices fs))
behind_one fs ts rest e u =
    ap (map (λ v. u ++ v)) e
    ∙ map_flat (λ v. u ++ v) (λ c. map (λ t. c ++ t) ts) (choices fs)
    ∙ flat_same (λ c. map (λ v. u ++ v) (map (λ t. c ++ t) ts)) (λ c. map (λ t. (u ++ c) ++ t) ts) (λ c. deeper u c ts) (choices fs)
    ∙ sym (flat_after (λ c. map (λ t. c ++ t) ts) (λ v. u ++ v) (choices fs))

-- with one factor more at the end, each of its alternatives behind each choice
pub choices_with_last : (fs : List (List (List Affine))) (ts : List (List Affine)) → choices (fs ++ ts ∷ []) ≡ flat_map (λ c. map (λ t. c ++ t) ts) (choices fs)
choices_with_last [] ts = choices_of_one ts ∙ sym (nil_right (map (λ t. [] ++ t) ts) ∙ same_map ts)
choices_with_last (us ∷ fs) ts =
    let e = choices_with_last fs ts in
    flat_same (λ u. map (λ v. u ++ v) (choices (fs ++ ts ∷ []))) (λ u. flat_map (λ c. map (λ t. c ++ t) ts) (map (λ v. u ++ v) (choices fs))) (behind_one fs ts (choices (fs ++ ts ∷ [])) e) us
    ∙ sym (flat_flat (λ c. map (λ t. c ++ t) ts) (λ u. map (λ v. u ++ v) (choices fs)) us)

-- a last factor that adds no rows
pub choices_without_last : (fs : List (List (List Affine))) → choices (fs ++ ([] ∷ []) ∷ []) ≡ choices fs
choices_without_last [] = refl
choices_without_last (us ∷ fs) = ap (λ cs. flat_map (λ u. map (λ v. u ++ v) cs) us) (choices_without_last fs)

pub without_last : (columns : ℕ) (front : List Affine) (fs : List (List (List Affine))) → product columns front (fs ++ ([] ∷ []) ∷ []) ≡ product columns front fs
without_last columns front fs = ap (map (λ rows. record { columns = columns; rows = front ++ rows })) (choices_without_last fs)

-- ---- Groups

-- the questions of a group as those of a block without rows in its tails
pub untailed : (g : Group) (front : List Affine) (factors : List (List (List Affine))) (tails : List (List Affine)) → front ≡ g.front → factors ≡ g.factors → tails ≡ [] ∷ []
    → product g.columns front (factors ++ tails ∷ []) ≡ group_systems g
untailed g front factors tails e f t =
    ap (λ rows. product g.columns rows (factors ++ tails ∷ [])) e ∙ ap (λ fs. product g.columns g.front (fs ++ tails ∷ [])) f
    ∙ ap (λ ts. product g.columns g.front (g.factors ++ ts ∷ [])) t ∙ without_last g.columns g.front g.factors

within_at : (qs : List Rows) (n : ℕ) (q : Rows) → slice_get qs n ≡ Some q → All IsWithin qs → IsWithin q
within_at [] n q e h = absurd (cc)
within_at (p ∷ ps) zero q e h = let same : q ≡ p = cc in subst IsWithin (sym same) (All-head IsWithin p ps h)
within_at (p ∷ ps) (suc n) q e h = within_at ps n q e (All-tail IsWithin p ps h)

-- where all keep the limits none passes them
pub none_past : (qs : List Rows) → All IsWithin qs → AnyPast qs → ⊥
none_past qs h a = a.past (within_at qs a.number a.question a.there h)
