-- Inverse forms give back what the forms have been applied to.
use Rattle.std.proofs.Common.{◌≡◌, ℕ, zero, suc, ◌+◌, ◌-◌, ◌<◌, ℤ, pos, ◌+ℤ◌, ◌*ℤ◌, List, [], ◌∷◌, ◌++◌, length, get_or, Some, refl, sym, ap, subst, ◌∙◌, arith, length-append}
use Rattle.std.specs.Prelude.{slice_get}
use Rattle.std.proofs.lemmas.Int.{ints}
use Rattle.std.proofs.lemmas.List.Elements.{All-cons, All-get_or}
use Rattle.std.proofs.lemmas.Option.{slice_get_within, none-some, same_Some, get_or_from_slice_get}
use Rattle.affc_rows.specs.Forms.{Affine, dot, value, values_of, columns_of, HaveColumns}
use Rattle.affc_rows.proofs.ValueLemmas.{value-composed}
use Rattle.affc_trace.specs.Inverses.{zeros, unit_row, column, columns_from, AreInverse}

-- ---- columns

pub length-zeros : (n : ℕ) → length (zeros n) ≡ n
length-zeros zero = refl
length-zeros (suc n) = ap suc (length-zeros n)

pub length-unit_row : (n j : ℕ) → length (unit_row n j) ≡ n
length-unit_row zero j = refl
length-unit_row (suc n) zero = ap suc (length-zeros n)
length-unit_row (suc n) (suc j) = ap suc (length-unit_row n j)

nothing_more : (x d : ℤ) → d ≡ pos 0 → (pos 0 *ℤ x) +ℤ d ≡ pos 0
nothing_more x d e = omega (arith, ints)

dot-zeros : (n : ℕ) (xs : List ℤ) → dot (zeros n) xs ≡ pos 0
dot-zeros zero xs = refl
dot-zeros (suc n) [] = refl
dot-zeros (suc n) (x ∷ xs) = nothing_more x (dot (zeros n) xs) (dot-zeros n xs)

this_one : (x d : ℤ) → d ≡ pos 0 → (pos 1 *ℤ x) +ℤ d ≡ x
this_one x d e = omega (arith, ints)

later : (x d y : ℤ) → d ≡ y → (pos 0 *ℤ x) +ℤ d ≡ y
later x d y e = omega (arith, ints)

pub dot-unit_row : (n j : ℕ) (xs : List ℤ) → length xs ≡ n → dot (unit_row n j) xs ≡ get_or xs j (pos 0)
dot-unit_row zero j [] e = refl
dot-unit_row zero j (x ∷ xs) e = absurd (omega arith)
dot-unit_row (suc n) j [] e = absurd (omega arith)
dot-unit_row (suc n) zero (x ∷ xs) e = this_one x (dot (zeros n) xs) (dot-zeros n xs)
dot-unit_row (suc n) (suc j) (x ∷ xs) e = later x (dot (unit_row n j) xs) (get_or xs j (pos 0)) (dot-unit_row n j xs (omega arith))

plus_zero : (x y : ℤ) → x ≡ y → x +ℤ pos 0 ≡ y
plus_zero x y e = omega (arith, ints)

pub value-column : (n j : ℕ) (xs : List ℤ) → length xs ≡ n → value (column n j) xs ≡ get_or xs j (pos 0)
value-column n j xs e = plus_zero (dot (unit_row n j) xs) (get_or xs j (pos 0)) (dot-unit_row n j xs e)

get_or-left : (front bs : List ℤ) (k : ℕ) → k < length front → get_or (front ++ bs) k (pos 0) ≡ get_or front k (pos 0)
get_or-left [] bs k h = absurd (omega arith)
get_or-left (a ∷ as') bs zero h = refl
get_or-left (a ∷ as') bs (suc k) h = get_or-left as' bs k (omega arith)

get_or-right : (front bs : List ℤ) (k : ℕ) → get_or (front ++ bs) (length front + k) (pos 0) ≡ get_or bs k (pos 0)
get_or-right [] bs k = let e : 0 + k ≡ k = omega arith in ap (λ i. get_or bs i (pos 0)) e
get_or-right (a ∷ as') bs k = let e : suc (length as') + k ≡ suc (length as' + k) = omega arith in ap (λ i. get_or (a ∷ (as' ++ bs)) i (pos 0)) e ∙ get_or-right as' bs k

-- forms whose values are the entries of a list
each_value : (gs : List Affine) (xs q : List ℤ) → length xs ≡ length gs → ((k : ℕ) (g : Affine) → slice_get gs k ≡ Some g → value g q ≡ get_or xs k (pos 0)) → values_of gs q ≡ xs
each_value [] [] q e h = refl
each_value [] (x ∷ xs) q e h = absurd (omega arith)
each_value (g ∷ gs) [] q e h = absurd (omega arith)
each_value (g ∷ gs) (x ∷ xs) q e h = ap (λ u. u ∷ values_of gs q) (h zero g refl) ∙ ap (λ l. x ∷ l) (each_value gs xs q (omega arith) (λ k f m. h (suc k) f m))

-- ---- the forms that an inverse form is composed with

length-columns_from : (n j m : ℕ) → length (columns_from n j m) ≡ m
length-columns_from n j zero = refl
length-columns_from n j (suc m) = ap suc (length-columns_from n (suc j) m)

column_at : (n j m k : ℕ) (g : Affine) → slice_get (columns_from n j m) k ≡ Some g → (k < m) × (g ≡ column n (j + k))
column_at n j zero k g e = absurd (none-some g e)
column_at n j (suc m) zero g e = let z : j ≡ j + 0 = omega arith in (omega arith, sym (same_Some _ g e) ∙ ap (column n) z)
column_at n j (suc m) (suc k) g e =
    let r = column_at n (suc j) m k g e in
    let l : k < m = r.0 in
    let z : suc j + k ≡ j + suc k = omega arith in
    (omega arith, r.1 ∙ ap (column n) z)

columns_have : (n j m : ℕ) (forms : List Affine) → HaveColumns n forms → HaveColumns n (columns_from n j m ++ forms)
columns_have n j zero forms h = h
columns_have n j (suc m) forms h = All-cons (λ g. length g.coefs ≡ n) (column n j) _ (length-unit_row n j) (columns_have n (suc j) m forms h)

values-append : (fs gs : List Affine) (q : List ℤ) → values_of (fs ++ gs) q ≡ values_of fs q ++ values_of gs q
values-append [] gs q = refl
values-append (f ∷ fs) gs q = ap (λ l. value f q ∷ l) (values-append fs gs q)

columns_of-images : (n m : ℕ) (forms : List Affine) → columns_of forms ≡ n → columns_of (columns_from n 0 m ++ forms) ≡ n
columns_of-images n zero forms e = e
columns_of-images n (suc m) forms e = length-unit_row n 0

first_values : (p x : List ℤ) (n : ℕ) → length p + length x ≡ n → values_of (columns_from n 0 (length p)) (p ++ x) ≡ p
first_values p x n e =
    each_value (columns_from n 0 (length p)) p (p ++ x) (sym (length-columns_from n 0 (length p))) (λ k g m.
    let c = column_at n 0 (length p) k g m in
    let l : length (p ++ x) ≡ n = length-append p x ∙ e in
    let z : 0 + k ≡ k = omega arith in
    ap (λ f. value f (p ++ x)) (c.1 ∙ ap (column n) z) ∙ value-column n k (p ++ x) l ∙ get_or-left p x k c.0)

-- a form that has the images' columns put in has the values of the images
pub recovers : (forms inverse : List Affine) → HaveColumns (columns_of forms) forms → HaveColumns (columns_of forms - length inverse + length forms) inverse → AreInverse forms inverse
    → (p x : List ℤ) → length x ≡ length inverse → length p + length x ≡ columns_of forms → values_of inverse (p ++ values_of forms (p ++ x)) ≡ x
recovers forms inverse shaped inverse_shaped inverts p x same_length whole =
    let n : ℕ = columns_of forms in
    let images : List Affine = columns_from n 0 (n - length inverse) ++ forms in
    let first : n - length inverse ≡ length p = omega arith in
    let point : length (p ++ x) ≡ n = length-append p x ∙ whole in
    let at_images : values_of images (p ++ x) ≡ p ++ values_of forms (p ++ x) =
    values-append (columns_from n 0 (n - length inverse)) forms (p ++ x)
    ∙ ap (λ m. values_of (columns_from n 0 m) (p ++ x) ++ values_of forms (p ++ x)) first
    ∙ ap (λ l. l ++ values_of forms (p ++ x)) (first_values p x n whole) in
    each_value inverse x (p ++ values_of forms (p ++ x)) same_length (λ k g m.
    let in_range : k < length inverse = slice_get_within inverse k g m in
    let counts : length images ≡ n - length inverse + length forms = length-append (columns_from n 0 (n - length inverse)) forms ∙ ap (λ u. u + length forms) (length-columns_from n 0 (n - length inverse)) in
    let width : length g.coefs ≡ n - length inverse + length forms = have inverse _ inverse_shaped k g m in
    let here : columns_of images ≡ n = columns_of-images n (n - length inverse) forms refl in
    ap (value g) (sym at_images)
    ∙ sym (value-composed g images (p ++ x) (counts ∙ sym width) (subst (λ u. HaveColumns u images) (sym point) (columns_have n 0 (n - length inverse) forms shaped)) (point ∙ sym here))
    ∙ ap (λ f. value f (p ++ x)) (inverts k g m)
    ∙ value-column (columns_of images) (n - length inverse + k) (p ++ x) (point ∙ sym here)
    ∙ ap (λ i. get_or (p ++ x) (i + k) (pos 0)) first
    ∙ get_or-right p x k)
  where
    have : (gs : List Affine) (c : ℕ) → HaveColumns c gs → (k : ℕ) (g : Affine) → slice_get gs k ≡ Some g → length g.coefs ≡ c
    have gs c h k g m = ap (λ f. length f.coefs) (sym (get_or_from_slice_get gs k g g m)) ∙ All-get_or (λ f. length f.coefs ≡ c) gs k g (slice_get_within gs k g m) h
