-- Lists of forms: how many columns they have, and their values.
use Rattle.std.proofs.Common.{◌≡◌, ℕ, suc, ℤ, List, [], ◌∷◌, ◌++◌, length, refl, ap, ◌∙◌}
use Rattle.std.proofs.lemmas.List.Elements.{All-nil, All-cons, All-head, All-tail}
use Rattle.affc_rows.specs.Forms.{Affine, value, values_of, HaveColumns}

pub no_columns : (n : ℕ) → HaveColumns n []
no_columns n = All-nil (λ g. length g.coefs ≡ n)

pub more_columns : (n : ℕ) (f : Affine) (fs : List Affine) → length f.coefs ≡ n → HaveColumns n fs → HaveColumns n (f ∷ fs)
more_columns n f fs e h = All-cons (λ g. length g.coefs ≡ n) f fs e h

pub first_columns : (n : ℕ) (f : Affine) (fs : List Affine) → HaveColumns n (f ∷ fs) → length f.coefs ≡ n
first_columns n f fs h = All-head (λ g. length g.coefs ≡ n) f fs h

pub later_columns : (n : ℕ) (f : Affine) (fs : List Affine) → HaveColumns n (f ∷ fs) → HaveColumns n fs
later_columns n f fs h = All-tail (λ g. length g.coefs ≡ n) f fs h

pub append_columns : (n : ℕ) (fs gs : List Affine) → HaveColumns n fs → HaveColumns n gs → HaveColumns n (fs ++ gs)
append_columns n [] gs h g = g
append_columns n (f ∷ fs) gs h g = more_columns n f (fs ++ gs) (first_columns n f fs h) (append_columns n fs gs (later_columns n f fs h) g)

pub cons_is : {A : Type 0} (a b : A) (xs ys : List A) → a ≡ b → xs ≡ ys → a ∷ xs ≡ b ∷ ys
cons_is a b xs ys e f = ap (λ z. z ∷ xs) e ∙ ap (λ zs. b ∷ zs) f

pub values_append : (fs gs : List Affine) (xs : List ℤ) → values_of (fs ++ gs) xs ≡ values_of fs xs ++ values_of gs xs
values_append [] gs xs = refl
values_append (f ∷ fs) gs xs = ap (λ z. value f xs ∷ z) (values_append fs gs xs)

pub values_long : (fs : List Affine) (xs : List ℤ) → length (values_of fs xs) ≡ length fs
values_long [] xs = refl
values_long (f ∷ fs) xs = ap suc (values_long fs xs)
