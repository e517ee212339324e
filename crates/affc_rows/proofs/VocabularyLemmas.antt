-- Units, zeros, mixtures and images.
use Rattle.std.proofs.Common.{◌≡◌, ℕ, zero, suc, ◌<◌, ◌≤◌, List, [], ◌∷◌, ◌++◌, length, replicate, take, ℤ, pos, ◌+ℤ◌, refl, sym, ap, ◌∙◌, subst, arith}
use Rattle.std.specs.Prelude.{unsigned_abs, neg_ℤ, map, ◌^◌, Result, Ok, Err, IfOk}
use Rattle.std.proofs.Math.ListN.{set}
use Rattle.std.proofs.lemmas.List.{take_all, drop_all}
use Rattle.std.proofs.Common.{append-nil}
use Rattle.std.specs.List.{All, refill}
use Rattle.std.proofs.lemmas.Int.{ints}
use Rattle.std.proofs.lemmas.List.Elements.{All-weaker, All-nil, All-head}
use Rattle.affc_rows.specs.Forms.{Affine, mixed_form, HaveColumns, columns_of, composed, composed_form}
use Rattle.affc_rows.specs.Vocabulary.{HasOpposite, AreOpposite, opposite, unit_of, number_form, form_at}
use Rattle.affc_rows.proofs.ValueLemmas.{length-mixed}

-- a column's coefficients: zeros, with a 1 at its place
pub one_set : (n x : ℕ) → x < n → set (replicate n (pos 0)) x (pos 1) ≡ unit_of n x
one_set zero x h = absurd (omega arith)
one_set (suc n) zero h = refl
one_set (suc n) (suc x) h = ap (λ z. pos 0 ∷ z) (one_set n x (omega arith))

pub none_set : (n x : ℕ) → n ≤ x → replicate n (pos 0) ≡ unit_of n x
none_set zero x h = refl
none_set (suc n) zero h = absurd (omega arith)
none_set (suc n) (suc x) h = ap (λ z. pos 0 ∷ z) (none_set n x (omega arith))

pub refill_full : (xs ws : List ℤ) → length ws ≡ length xs → refill (length xs) xs ws ≡ ws
refill_full xs ws h =
    ap (λ z. take (length xs) (ws ++ z)) (drop_all (length ws) xs (omega arith))
    ∙ ap (take (length xs)) (append-nil ws)
    ∙ take_all (length xs) ws (omega arith)

zeros_width : (n : ℕ) → length (replicate n (pos 0)) ≡ n
zeros_width zero = refl
zeros_width (suc n) = ap suc (zeros_width n)

pub unit_width : (n x : ℕ) → length (unit_of n x) ≡ n
unit_width zero x = refl
unit_width (suc n) zero = ap suc (zeros_width n)
unit_width (suc n) (suc x) = ap suc (unit_width n x)

pub mixture_width : (s : ℤ) (f : Affine) (t : ℤ) (g h : Affine) → length f.coefs ≡ length g.coefs → h ≡ mixed_form s f t g → length h.coefs ≡ length f.coefs
mixture_width s f t g h w e = ap (λ (k : Affine). length k.coefs) e ∙ length-mixed s f.coefs t g.coefs w

-- without images each coefficient is 0
no_coefs : (j n : ℕ) → composed [] [] j n ≡ replicate n (pos 0)
no_coefs j zero = refl
no_coefs j (suc n) = ap (λ z. pos 0 ∷ z) (no_coefs (suc j) n)

left : (z : ℤ) → pos 0 +ℤ z ≡ z
left z = omega (arith, ints)

no_form : (columns : ℕ) (cs : List ℤ) (k : ℤ) → length cs ≡ 0 → number_form columns k ≡ form_at columns [] (record { coefs = cs; constant = k })
no_form columns (c ∷ cs) k w = absurd (omega (arith, w))
no_form columns [] k w = λ i. record { coefs = sym (no_coefs 0 columns) i; constant = sym (left k) i }

none_is : (columns : ℕ) (images : List Affine) (f : Affine) → length images ≡ 0 → length images ≡ length f.coefs → number_form columns f.constant ≡ form_at columns images f
none_is columns (g ∷ gs) f e w = absurd (omega (arith, e))
none_is columns [] f e w = no_form columns f.coefs f.constant (sym w)

pub no_image : {E : Type 0} (columns : ℕ) (images : List Affine) (f : Affine) (k : ℤ) (r : Result Affine E) → length images ≡ 0 → length images ≡ length f.coefs → k ≡ f.constant
    → IfOk r (λ g. g ≡ number_form columns k) → IfOk r (λ g. g ≡ form_at columns images f)
no_image columns images f k (Ok g) e w s h = h ∙ ap (number_form columns) s ∙ none_is columns images f e w
no_image columns images f k (Err x) e w s h = h

-- so many columns are those of the images, where there are any
pub image_columns : (columns : ℕ) (images : List Affine) → HaveColumns columns images → HaveColumns (columns_of images) images
image_columns columns [] h = All-nil (λ g. length g.coefs ≡ 0)
image_columns columns (g ∷ gs) h = subst (λ n. HaveColumns n (g ∷ gs)) (sym (All-head (λ f. length f.coefs ≡ columns) g gs h)) h

pub composed_is : (columns : ℕ) (images : List Affine) (f made : Affine) → HaveColumns columns images → (length images ≡ 0 → ⊥) → made ≡ composed_form f images → made ≡ form_at columns images f
composed_is columns [] f made h some e = absurd (some refl)
composed_is columns (g ∷ gs) f made h some e = e ∙ ap (λ n. form_at n (g ∷ gs) f) (All-head (λ f. length f.coefs ≡ columns) g gs h)

-- numbers within less than 2^127 have opposites
pub within_opposite : (n m : ℕ) (f : Affine) → n < 2 ^ 127 → m < 2 ^ 127 → All (λ c. unsigned_abs c ≤ n) f.coefs → unsigned_abs f.constant ≤ m → HasOpposite f
within_opposite n m f h k coefs constant =
    (All-weaker (λ c. unsigned_abs c ≤ n) (λ c. unsigned_abs c < 2 ^ 127) (λ c l. omega (arith, h, l)) f.coefs coefs, omega (arith, k, constant))

-- a form is opposite to another exactly where it is the other with its signs turned
other_sign : (x y : ℤ) → x +ℤ y ≡ pos 0 → y ≡ neg_ℤ x
other_sign x y h = omega (arith, ints, h)

no_sum : (x : ℤ) → x +ℤ neg_ℤ x ≡ pos 0
no_sum x = omega (arith, ints)

opposites_are : (xs ys : List ℤ) → AreOpposite xs ys → ys ≡ map neg_ℤ xs
opposites_are [] [] h = refl
opposites_are [] (y ∷ ys) h = absurd h
opposites_are (x ∷ xs) [] h = absurd h
opposites_are (x ∷ xs) (y ∷ ys) h = λ i. other_sign x y h.0 i ∷ opposites_are xs ys h.1 i

are_opposites : (xs : List ℤ) → AreOpposite xs (map neg_ℤ xs)
are_opposites [] = tt
are_opposites (x ∷ xs) = (no_sum x, are_opposites xs)

pub opposite_is : (xs : List ℤ) (x : ℤ) (ys : List ℤ) (y : ℤ) → x +ℤ y ≡ pos 0 → AreOpposite xs ys → record { coefs = ys; constant = y } ≡ opposite (record { coefs = xs; constant = x })
opposite_is xs x ys y h k = λ i. record { coefs = opposites_are xs ys k i; constant = other_sign x y h i }

pub is_opposite : (xs : List ℤ) (x : ℤ) (ys : List ℤ) (y : ℤ) → record { coefs = ys; constant = y } ≡ opposite (record { coefs = xs; constant = x }) → (x +ℤ y ≡ pos 0) × AreOpposite xs ys
is_opposite xs x ys y e = subst (λ (h : Affine). (x +ℤ h.constant ≡ pos 0) × AreOpposite xs h.coefs) (sym e) (no_sum x, are_opposites xs)
