-- What a step of a loop over two lists takes from the sums, entries and magnitudes that are left.
use Rattle.std.proofs.Common.{◌≡◌, ℕ, zero, suc, ◌+◌, ◌-◌, ◌*◌, ◌^◌, ◌<◌, ◌≤◌, List, [], ◌∷◌, ◌++◌, length, get_or, drop, ℤ, pos, ◌+ℤ◌, ◌*ℤ◌, refl, sym, ap, ◌∙◌, arith, add-one}
use lib.IntN.{+ℤ_assoc}
use Rattle.std.specs.Prelude.{unsigned_abs}
use Rattle.std.proofs.Common.{append_assoc, subst, inl, inr}
use Rattle.affc_rows.specs.Forms.{Affine, AllFit, TooWide, column_of, constants_of, composed, composed_magnitudes, dot, dot_magnitude, mixed, mixed_magnitudes, entry_magnitude}

dot-drop' : (i : ℕ) (cs xs : List ℤ) → i < length cs → i < length xs
    → dot (drop i cs) (drop i xs) ≡ (get_or cs i (pos 0) *ℤ get_or xs i (pos 0)) +ℤ dot (drop (suc i) cs) (drop (suc i) xs)
dot-drop' zero (c ∷ cs) (x ∷ xs) h k = refl
dot-drop' (suc i) (c ∷ cs) (x ∷ xs) h k = dot-drop' i cs xs (omega arith) (omega arith)
dot-drop' i [] xs h k = absurd (omega arith)
dot-drop' i (c ∷ cs) [] h k = absurd (omega arith)

-- one term of what is left
pub dot-drop : (i : ℕ) (cs xs : List ℤ) → i < length cs → i < length xs
    → dot (drop i cs) (drop i xs) ≡ (get_or cs i (pos 0) *ℤ get_or xs i (pos 0)) +ℤ dot (drop (i + 1) cs) (drop (i + 1) xs)
dot-drop i cs xs h k = rw add-one (dot-drop' i cs xs h k)

dot_magnitude-drop' : (i : ℕ) (cs xs : List ℤ) → i < length cs → i < length xs
    → dot_magnitude (drop i cs) (drop i xs) ≡ unsigned_abs (get_or cs i (pos 0)) * unsigned_abs (get_or xs i (pos 0)) + dot_magnitude (drop (suc i) cs) (drop (suc i) xs)
dot_magnitude-drop' zero (c ∷ cs) (x ∷ xs) h k = refl
dot_magnitude-drop' (suc i) (c ∷ cs) (x ∷ xs) h k = dot_magnitude-drop' i cs xs (omega arith) (omega arith)
dot_magnitude-drop' i [] xs h k = absurd (omega arith)
dot_magnitude-drop' i (c ∷ cs) [] h k = absurd (omega arith)

pub dot_magnitude-drop : (i : ℕ) (cs xs : List ℤ) → i < length cs → i < length xs
    → dot_magnitude (drop i cs) (drop i xs) ≡ unsigned_abs (get_or cs i (pos 0)) * unsigned_abs (get_or xs i (pos 0)) + dot_magnitude (drop (i + 1) cs) (drop (i + 1) xs)
dot_magnitude-drop i cs xs h k = rw add-one (dot_magnitude-drop' i cs xs h k)

-- one term goes from what is left to the sum
pub sum_step : (new old term left rest whole : ℤ) → new ≡ old +ℤ term → left ≡ term +ℤ rest → old +ℤ left ≡ whole → new +ℤ rest ≡ whole
sum_step new old term left rest whole n l w = ap (λ z. z +ℤ rest) n ∙ +ℤ_assoc old term rest ∙ ap (λ z. old +ℤ z) (sym l) ∙ w

pub weight_step : (new old term left rest whole : ℕ) → new ≡ old + term → left ≡ term + rest → old + left ≡ whole → new + rest ≡ whole
weight_step new old term left rest whole n l w = omega arith

mixed-drop' : (i : ℕ) (s : ℤ) (cs : List ℤ) (t : ℤ) (ds : List ℤ) → i < length cs → i < length ds
    → mixed s (drop i cs) t (drop i ds) ≡ ((s *ℤ get_or cs i (pos 0)) +ℤ (t *ℤ get_or ds i (pos 0))) ∷ mixed s (drop (suc i) cs) t (drop (suc i) ds)
mixed-drop' zero s (c ∷ cs) t (d ∷ ds) h k = refl
mixed-drop' (suc i) s (c ∷ cs) t (d ∷ ds) h k = mixed-drop' i s cs t ds (omega arith) (omega arith)
mixed-drop' i s [] t ds h k = absurd (omega arith)
mixed-drop' i s (c ∷ cs) t [] h k = absurd (omega arith)

pub mixed-drop : (i : ℕ) (s : ℤ) (cs : List ℤ) (t : ℤ) (ds : List ℤ) → i < length cs → i < length ds
    → mixed s (drop i cs) t (drop i ds) ≡ ((s *ℤ get_or cs i (pos 0)) +ℤ (t *ℤ get_or ds i (pos 0))) ∷ mixed s (drop (i + 1) cs) t (drop (i + 1) ds)
mixed-drop i s cs t ds h k = rw add-one (mixed-drop' i s cs t ds h k)

mixed_magnitudes-drop' : (i : ℕ) (s : ℤ) (cs : List ℤ) (t : ℤ) (ds : List ℤ) → i < length cs → i < length ds
    → mixed_magnitudes s (drop i cs) t (drop i ds) ≡ entry_magnitude s (get_or cs i (pos 0)) t (get_or ds i (pos 0)) ∷ mixed_magnitudes s (drop (suc i) cs) t (drop (suc i) ds)
mixed_magnitudes-drop' zero s (c ∷ cs) t (d ∷ ds) h k = refl
mixed_magnitudes-drop' (suc i) s (c ∷ cs) t (d ∷ ds) h k = mixed_magnitudes-drop' i s cs t ds (omega arith) (omega arith)
mixed_magnitudes-drop' i s [] t ds h k = absurd (omega arith)
mixed_magnitudes-drop' i s (c ∷ cs) t [] h k = absurd (omega arith)

pub mixed_magnitudes-drop : (i : ℕ) (s : ℤ) (cs : List ℤ) (t : ℤ) (ds : List ℤ) → i < length cs → i < length ds
    → mixed_magnitudes s (drop i cs) t (drop i ds) ≡ entry_magnitude s (get_or cs i (pos 0)) t (get_or ds i (pos 0)) ∷ mixed_magnitudes s (drop (i + 1) cs) t (drop (i + 1) ds)
mixed_magnitudes-drop i s cs t ds h k = rw add-one (mixed_magnitudes-drop' i s cs t ds h k)

-- one entry goes from what is left to what is made
pub made_step : {A : Type 0} (new old : List A) (entry : A) (left rest whole : List A)
    → new ≡ old ++ entry ∷ [] → left ≡ entry ∷ rest → old ++ left ≡ whole → new ++ rest ≡ whole
made_step new old entry left rest whole n l w = ap (λ z. z ++ rest) n ∙ append_assoc old (entry ∷ []) rest ∙ ap (λ z. old ++ z) (sym l) ∙ w

-- what is left of the sums of magnitudes fits where its first one and the rest do
pub fit_back : (n : ℕ) (left rest : List ℕ) → left ≡ n ∷ rest → n ≤ 2 ^ 126 → AllFit rest → AllFit left
fit_back n left rest e fits r = subst AllFit (sym e) (fits, r)

-- what is left is too wide where the rest is, or the first one
pub wide_back : (n : ℕ) (left rest : List ℕ) → left ≡ n ∷ rest → TooWide rest → TooWide left
wide_back n left rest e w = subst TooWide (sym e) (inr w)

pub wide_here : (n : ℕ) (left rest : List ℕ) → left ≡ n ∷ rest → 2 ^ 126 < n → TooWide left
wide_here n left rest e w = subst TooWide (sym e) (inl w)

-- a loop that adds the products of two lists: one product goes from what is left to the sum
pub dot_step : (i : ℕ) (cs xs : List ℤ) (x new old whole : ℤ) → i < length cs → i < length xs → x ≡ get_or xs i (pos 0)
    → new ≡ old +ℤ (get_or cs i (pos 0) *ℤ x) → old +ℤ dot (drop i cs) (drop i xs) ≡ whole → new +ℤ dot (drop (i + 1) cs) (drop (i + 1) xs) ≡ whole
dot_step i cs xs x new old whole h k e n w =
    sum_step new old _ _ _ whole (n ∙ ap (λ z. old +ℤ (get_or cs i (pos 0) *ℤ z)) e) (dot-drop i cs xs h k) w

pub dot_magnitude_step : (i : ℕ) (cs xs : List ℤ) (x : ℤ) (new old whole : ℕ) → i < length cs → i < length xs → x ≡ get_or xs i (pos 0)
    → new ≡ old + unsigned_abs (get_or cs i (pos 0)) * unsigned_abs x → old + dot_magnitude (drop i cs) (drop i xs) ≡ whole
    → new + dot_magnitude (drop (i + 1) cs) (drop (i + 1) xs) ≡ whole
dot_magnitude_step i cs xs x new old whole h k e n w =
    weight_step new old _ _ _ whole (n ∙ ap (λ z. old + unsigned_abs (get_or cs i (pos 0)) * unsigned_abs z) e) (dot_magnitude-drop i cs xs h k) w

past : (m old term term' left rest whole : ℕ) → m < old + term → term ≡ term' → left ≡ term' + rest → old + left ≡ whole → m < whole
past m old term term' left rest whole a b d e = omega arith

-- the sum of magnitudes is past a limit where its first part is
pub dot_magnitude_past : (m i : ℕ) (cs xs : List ℤ) (x : ℤ) (old whole : ℕ) → i < length cs → i < length xs → x ≡ get_or xs i (pos 0)
    → m < old + unsigned_abs (get_or cs i (pos 0)) * unsigned_abs x → old + dot_magnitude (drop i cs) (drop i xs) ≡ whole → m < whole
dot_magnitude_past m i cs xs x old whole h k e a w =
    past m old _ _ _ _ whole a (ap (λ z. unsigned_abs (get_or cs i (pos 0)) * unsigned_abs z) e) (dot_magnitude-drop i cs xs h k) w

-- the coefficients of one column, and the constants, form by form
pub length-column_of : (j : ℕ) (images : List Affine) → length (column_of j images) ≡ length images
length-column_of j [] = refl
length-column_of j (g ∷ gs) = ap suc (length-column_of j gs)

pub length-constants_of : (images : List Affine) → length (constants_of images) ≡ length images
length-constants_of [] = refl
length-constants_of (g ∷ gs) = ap suc (length-constants_of gs)

pub column_of-at : (j i : ℕ) (images : List Affine) (g : Affine) → i < length images → g ≡ get_or images i g
    → get_or g.coefs j (pos 0) ≡ get_or (column_of j images) i (pos 0)
column_of-at j zero (h ∷ hs) g l e = ap (λ z. get_or z.coefs j (pos 0)) e
column_of-at j (suc i) (h ∷ hs) g l e = column_of-at j i hs g (omega arith) e
column_of-at j i [] g l e = absurd (omega arith)

pub constants_of-at : (i : ℕ) (images : List Affine) (g : Affine) → i < length images → g ≡ get_or images i g
    → g.constant ≡ get_or (constants_of images) i (pos 0)
constants_of-at zero (h ∷ hs) g l e = ap (λ z. z.constant) e
constants_of-at (suc i) (h ∷ hs) g l e = constants_of-at i hs g (omega arith) e
constants_of-at i [] g l e = absurd (omega arith)

-- one column of a composition
pub composed-step : (cs : List ℤ) (images : List Affine) (j n : ℕ) → j < n
    → composed cs images j (n - j) ≡ dot cs (column_of j images) ∷ composed cs images (j + 1) (n - (j + 1))
composed-step cs images j n h =
    let e : n - j ≡ suc (n - (j + 1)) = omega arith in
    rw (e, add-one) refl

pub composed_magnitudes-step : (cs : List ℤ) (images : List Affine) (j n : ℕ) → j < n
    → composed_magnitudes cs images j (n - j) ≡ dot_magnitude cs (column_of j images) ∷ composed_magnitudes cs images (j + 1) (n - (j + 1))
composed_magnitudes-step cs images j n h =
    let e : n - j ≡ suc (n - (j + 1)) = omega arith in
    rw (e, add-one) refl
