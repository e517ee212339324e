-- Forms of a part at an instance by forms of trees that the search gives.
use Rattle.std.proofs.Common.{◌≡◌, ℕ, zero, suc, ◌+◌, ◌*◌, ◌^◌, ◌<◌, ◌≤◌, ℤ, pos, negsuc, ◌+ℤ◌, ◌-ℤ◌, ◌*ℤ◌, List, [], ◌∷◌, ◌++◌, length, map, get_or, refl, sym, ap, subst, ◌∙◌, arith}
use Rattle.std.specs.Prelude.{unsigned_abs}
use Rattle.std.specs.List.{All}
use Rattle.std.proofs.lemmas.List.Elements.{All-nil, All-cons, All-head, All-tail}
use Rattle.std.proofs.lemmas.Int.{ints}
use Rattle.std.proofs.lemmas.Nat.{mul-le}
use Rattle.std.proofs.Math.Nat.{suc-mul}
use Rattle.affc_rows.specs.Forms.{Affine, dot, dot_magnitude, column_of, constants_of, composed, mixed}
use Rattle.affc_rows.specs.Sizes.{IsWithin}
use Rattle.affc_rows.proofs.IntLemmas.{abs-add}
use Rattle.affc_rows.proofs.SizeLemmas.{Below, dot_abs, difference_abs, entry_below, number_within}
use Rattle.affc_rows.proofs.ValueLemmas.{length-composed, length-mixed}
use Rattle.affc_system.proofs.SystemLemmas.{row_of}
use Rattle.affc_system.specs.Pairs.{IsSubscript}
use Rattle.affc_system.specs.Systems.{IsRow}
use Rattle.affc_trace.specs.Inverses.{columns_from}
use Rattle.affc_nest.specs.Domains.{gap_row, number_form}
use Rattle.affc_nest.specs.Sides.{IsSide}
use Rattle.affc_order.specs.Posed.{form_at}
use Rattle.affc_order.proofs.CodeLemmas.{columns_sides}
use Rattle.affc_quast.specs.Leaves.{negated}
use Rattle.affc_quast.specs.Limits.{FitsForm, narrow}
use Rattle.affc_life.proofs.LightLemmas.{all_map}
use Rattle.affc_questions.proofs.TightLemmas.{IsTight}

-- ---- Sums of products in two parts

one_more : (n m d e f : ℕ) → d ≤ n * m → e ≤ m → f ≡ e + d → f ≤ suc n * m
one_more n m d e f h g i = let j : suc n * m ≡ n * m + m = suc-mul n m in omega arith

dot_by : (a b : ℕ) (cs ds : List ℤ) → Below a cs → Below b ds → dot_magnitude cs ds ≤ length ds * (a * b)
dot_by a b [] ds h g = omega arith
dot_by a b (c ∷ cs) [] h g = omega arith
dot_by a b (c ∷ cs) (d ∷ ds) h g =
    one_more (length ds) (a * b) (dot_magnitude cs ds) (unsigned_abs c * unsigned_abs d) (dot_magnitude (c ∷ cs) (d ∷ ds)) (dot_by a b cs ds (All-tail (λ c. unsigned_abs c ≤ a) c cs h) (All-tail (λ d. unsigned_abs d ≤ b) d ds g))
    (mul-le (unsigned_abs c) (unsigned_abs d) a b (All-head (λ c. unsigned_abs c ≤ a) c cs h) (All-head (λ d. unsigned_abs d ≤ b) d ds g)) refl

dot_parted : (a b d : ℕ) (cs us vs : List ℤ) → Below a cs → Below b us → Below d vs → dot_magnitude cs (us ++ vs) ≤ length us * (a * b) + length vs * (a * d)
dot_parted a b d [] us vs h g i = omega arith
dot_parted a b d (c ∷ cs) [] vs h g i = none (dot_magnitude (c ∷ cs) vs) (length vs * (a * d)) (a * b) (dot_by a d (c ∷ cs) vs h i)
  where
    none : (s k m : ℕ) → s ≤ k → s ≤ 0 * m + k
    none s k m h = omega (arith, h)
dot_parted a b d (c ∷ cs) (u ∷ us) vs h g i =
    let rest = dot_parted a b d cs us vs (All-tail (λ c. unsigned_abs c ≤ a) c cs h) (All-tail (λ u. unsigned_abs u ≤ b) u us g) i in
    let first = mul-le (unsigned_abs c) (unsigned_abs u) a b (All-head (λ c. unsigned_abs c ≤ a) c cs h) (All-head (λ u. unsigned_abs u ≤ b) u us g) in
    sum (length us) (a * b) (length vs * (a * d)) (dot_magnitude cs (us ++ vs)) (unsigned_abs c * unsigned_abs u) rest first
  where
    sum : (n m k s t : ℕ) → s ≤ n * m + k → t ≤ m → t + s ≤ suc n * m + k
    sum n m k s t h g = let j : suc n * m ≡ n * m + m = suc-mul n m in omega (arith, h, g, j)

-- ---- The images of columns

column_append : (j : ℕ) (gs hs : List Affine) → column_of j (gs ++ hs) ≡ column_of j gs ++ column_of j hs
column_append j [] hs = refl
column_append j (g ∷ gs) hs = ap (λ cs. get_or g.coefs j (pos 0) ∷ cs) (column_append j gs hs)

constants_append : (gs hs : List Affine) → constants_of (gs ++ hs) ≡ constants_of gs ++ constants_of hs
constants_append [] hs = refl
constants_append (g ∷ gs) hs = ap (λ cs. g.constant ∷ cs) (constants_append gs hs)

column_long : (j : ℕ) (gs : List Affine) → length (column_of j gs) ≡ length gs
column_long j [] = refl
column_long j (g ∷ gs) = ap suc (column_long j gs)

constants_long : (gs : List Affine) → length (constants_of gs) ≡ length gs
constants_long [] = refl
constants_long (g ∷ gs) = ap suc (constants_long gs)

sides_column : (n j : ℕ) (gs : List Affine) → All (IsSide n) gs → Below (2 ^ 16) (column_of j gs)
sides_column n j [] h = All-nil (λ d. unsigned_abs d ≤ 2 ^ 16)
sides_column n j (g ∷ gs) h =
    All-cons (λ d. unsigned_abs d ≤ 2 ^ 16) (get_or g.coefs j (pos 0)) (column_of j gs) (entry_below (2 ^ 16) g.coefs j (All-head (IsSide n) g gs h).coefs_fit) (sides_column n j gs (All-tail (IsSide n) g gs h))

sides_constants : (n : ℕ) (gs : List Affine) → All (IsSide n) gs → Below (2 ^ 32) (constants_of gs)
sides_constants n [] h = All-nil (λ d. unsigned_abs d ≤ 2 ^ 32)
sides_constants n (g ∷ gs) h = All-cons (λ d. unsigned_abs d ≤ 2 ^ 32) g.constant (constants_of gs) (All-head (IsSide n) g gs h).constant_fits (sides_constants n gs (All-tail (IsSide n) g gs h))

narrow_column : (j : ℕ) (gs : List Affine) → All (FitsForm narrow) gs → Below (2 ^ 20) (column_of j gs)
narrow_column j [] h = All-nil (λ d. unsigned_abs d ≤ 2 ^ 20)
narrow_column j (g ∷ gs) h =
    All-cons (λ d. unsigned_abs d ≤ 2 ^ 20) (get_or g.coefs j (pos 0)) (column_of j gs) (entry_below (2 ^ 20) g.coefs j (All-head (FitsForm narrow) g gs h).coefs_fit) (narrow_column j gs (All-tail (FitsForm narrow) g gs h))

narrow_constants : (gs : List Affine) → All (FitsForm narrow) gs → Below (2 ^ 40) (constants_of gs)
narrow_constants [] h = All-nil (λ d. unsigned_abs d ≤ 2 ^ 40)
narrow_constants (g ∷ gs) h = All-cons (λ d. unsigned_abs d ≤ 2 ^ 40) g.constant (constants_of gs) (All-head (FitsForm narrow) g gs h).constant_fits (narrow_constants gs (All-tail (FitsForm narrow) g gs h))

-- ---- A form at the instance

-- with entries that are somewhat smaller than those of a row may be
abbrev pub IsSituated : (columns : ℕ) → Affine → Type 0
IsSituated columns = IsWithin columns (2 ^ 39 + 2 ^ 38 + 2 ^ 37) (2 ^ 59 + 2 ^ 58 + 2 ^ 57)

module _ (columns params : ℕ) (forms : List Affine) (few : params ≤ 4) (few_forms : length forms ≤ 6) (fit : All (FitsForm narrow) forms) (long : length (columns_from columns 0 params) ≡ params) where
  abbrev images : List Affine
  images = columns_from columns 0 params ++ forms

  -- a coefficient, and the constant, by how large the form's are
  coef_at : (cs : List ℤ) (j : ℕ) → Below (2 ^ 17) cs → unsigned_abs (dot cs (column_of j images)) ≤ 2 ^ 39 + 2 ^ 38 + 2 ^ 37
  coef_at cs j h =
      sum (unsigned_abs (dot cs (column_of j images))) (dot_magnitude cs (column_of j images)) (length (column_of j (columns_from columns 0 params))) (length (column_of j forms)) (dot_abs cs (column_of j images))
      (subst (λ ds. dot_magnitude cs ds ≤ length (column_of j (columns_from columns 0 params)) * (2 ^ 17 * 2 ^ 16) + length (column_of j forms) * (2 ^ 17 * 2 ^ 20)) (sym (column_append j (columns_from columns 0 params) forms))
      (dot_parted (2 ^ 17) (2 ^ 16) (2 ^ 20) cs (column_of j (columns_from columns 0 params)) (column_of j forms) h (sides_column columns j (columns_from columns 0 params) (columns_sides columns 0 params)) (narrow_column j forms fit)))
      (column_long j (columns_from columns 0 params) ∙ long) (column_long j forms)
    where
      sum : (a d m l : ℕ) → a ≤ d → d ≤ m * (2 ^ 17 * 2 ^ 16) + l * (2 ^ 17 * 2 ^ 20) → m ≡ params → l ≡ length forms → a ≤ 2 ^ 39 + 2 ^ 38 + 2 ^ 37
      sum a d m l e h g i = omega (arith, e, h, g, i, few, few_forms)

  constant_at : (f : Affine) → Below (2 ^ 17) f.coefs → unsigned_abs f.constant ≤ 2 ^ 34 → unsigned_abs (dot f.coefs (constants_of images) +ℤ f.constant) ≤ 2 ^ 59 + 2 ^ 58 + 2 ^ 57
  constant_at f h k =
      sum (unsigned_abs (dot f.coefs (constants_of images) +ℤ f.constant)) (unsigned_abs (dot f.coefs (constants_of images))) (dot_magnitude f.coefs (constants_of images)) (unsigned_abs f.constant)
      (length (constants_of (columns_from columns 0 params))) (length (constants_of forms)) (abs-add (dot f.coefs (constants_of images)) f.constant) (dot_abs f.coefs (constants_of images))
      (subst (λ ds. dot_magnitude f.coefs ds ≤ length (constants_of (columns_from columns 0 params)) * (2 ^ 17 * 2 ^ 32) + length (constants_of forms) * (2 ^ 17 * 2 ^ 40)) (sym (constants_append (columns_from columns 0 params) forms))
      (dot_parted (2 ^ 17) (2 ^ 32) (2 ^ 40) f.coefs (constants_of (columns_from columns 0 params)) (constants_of forms) h (sides_constants columns (columns_from columns 0 params) (columns_sides columns 0 params)) (narrow_constants forms fit)))
      k (constants_long (columns_from columns 0 params) ∙ long) (constants_long forms)
    where
      sum : (a b d k m l : ℕ) → a ≤ b + k → b ≤ d → d ≤ m * (2 ^ 17 * 2 ^ 32) + l * (2 ^ 17 * 2 ^ 40) → k ≤ 2 ^ 34 → m ≡ params → l ≡ length forms → a ≤ 2 ^ 59 + 2 ^ 58 + 2 ^ 57
      sum a b d k m l e h g i j p = omega (arith, e, h, g, i, j, p, few, few_forms)

  composed_placed : (cs : List ℤ) → Below (2 ^ 17) cs → (j n : ℕ) → Below (2 ^ 39 + 2 ^ 38 + 2 ^ 37) (composed cs images j n)
  composed_placed cs h j zero = All-nil (λ c. unsigned_abs c ≤ 2 ^ 39 + 2 ^ 38 + 2 ^ 37)
  composed_placed cs h j (suc n) = All-cons (λ c. unsigned_abs c ≤ 2 ^ 39 + 2 ^ 38 + 2 ^ 37) (dot cs (column_of j images)) (composed cs images (suc j) n) (coef_at cs j h) (composed_placed cs h (suc j) n)

  pub placed : (f : Affine) → IsTight f → IsSituated columns (form_at columns images f)
  placed f t = record { width = length-composed f.coefs images 0 columns; coefs_fit = composed_placed f.coefs t.coefs_fit 0 columns; constant_fits = constant_at f t.coefs_fit t.constant_fits }

  pub all_placed : (fs : List Affine) → All IsTight fs → All (IsSituated columns) (map (form_at columns images) fs)
  all_placed fs all = all_map IsTight (IsSituated columns) (form_at columns images) placed fs all

-- ---- Rows of them

differences_below : (a b : ℕ) (cs ds : List ℤ) → Below a cs → Below b ds → Below (a + b) (mixed (pos 1) cs (negsuc 0) ds)
differences_below a b [] ds h g = All-nil (λ c. unsigned_abs c ≤ a + b)
differences_below a b (c ∷ cs) [] h g = All-nil (λ c. unsigned_abs c ≤ a + b)
differences_below a b (c ∷ cs) (d ∷ ds) h g =
    All-cons (λ c. unsigned_abs c ≤ a + b) ((pos 1 *ℤ c) +ℤ (negsuc 0 *ℤ d)) (mixed (pos 1) cs (negsuc 0) ds)
    (sum (unsigned_abs ((pos 1 *ℤ c) +ℤ (negsuc 0 *ℤ d))) (unsigned_abs c) (unsigned_abs d) (difference_abs c d) (All-head (λ c. unsigned_abs c ≤ a) c cs h) (All-head (λ d. unsigned_abs d ≤ b) d ds g))
    (differences_below a b cs ds (All-tail (λ c. unsigned_abs c ≤ a) c cs h) (All-tail (λ d. unsigned_abs d ≤ b) d ds g))
  where
    sum : (s x y : ℕ) → s ≤ x + y → x ≤ a → y ≤ b → s ≤ a + b
    sum s x y e h g = omega (arith, e, h, g)

-- the row g - f - 1 of forms that together are within the limits of a row
gap_of : (n a k b l : ℕ) (f g : Affine) → b + a ≤ 2 ^ 40 → l + k < 2 ^ 60 → IsWithin n a k f → IsWithin n b l g → IsRow n (gap_row f g 1)
gap_of n a k b l f g few less s t =
    row_of n (b + a) (2 ^ 60) (gap_row f g 1) few (omega arith) (record {
      width = length-mixed (pos 1) g.coefs (negsuc 0) f.coefs (t.width ∙ sym s.width) ∙ t.width;
      coefs_fit = differences_below b a g.coefs f.coefs t.coefs_fit s.coefs_fit;
      constant_fits = last ((pos 1 *ℤ g.constant) +ℤ (negsuc 0 *ℤ f.constant)) (unsigned_abs g.constant) (unsigned_abs f.constant) (difference_abs g.constant f.constant) t.constant_fits s.constant_fits;
    })
  where
    last : (z : ℤ) (x y : ℕ) → unsigned_abs z ≤ x + y → x ≤ l → y ≤ k → unsigned_abs (z -ℤ pos 1) ≤ 2 ^ 60
    last z x y e h g = omega (arith, ints, e, h, g, less)

-- the row that such a form is below 0
pub negated_row : (n : ℕ) (f : Affine) → IsSituated n f → IsRow n (negated f)
negated_row n f p =
    gap_of n (2 ^ 39 + 2 ^ 38 + 2 ^ 37) (2 ^ 59 + 2 ^ 58 + 2 ^ 57) 0 0 f (number_form (length f.coefs) (pos 0)) (omega arith) (omega arith) p
    (subst (λ k. IsWithin n 0 0 (number_form k (pos 0))) (sym p.width) (number_within n 0 0 (pos 0) (omega arith)))

-- the difference of such a form and a subscript
module _ (n : ℕ) (f g : Affine) (p : IsSituated n f) (s : IsSubscript n g) where
  pub less_row : IsRow n (gap_row f g 1)
  less_row = gap_of n (2 ^ 39 + 2 ^ 38 + 2 ^ 37) (2 ^ 59 + 2 ^ 58 + 2 ^ 57) 65536 16777216 f g (omega arith) (omega arith) p s

  pub greater_row : IsRow n (gap_row g f 1)
  greater_row = gap_of n 65536 16777216 (2 ^ 39 + 2 ^ 38 + 2 ^ 37) (2 ^ 59 + 2 ^ 58 + 2 ^ 57) g f (omega arith) (omega arith) s p
