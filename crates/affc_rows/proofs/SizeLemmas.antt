-- How large sums of products, values and compositions of forms are.
use Rattle.std.proofs.Common.{◌≡◌, ℕ, zero, suc, ◌+◌, ◌-◌, ◌*◌, ◌^◌, ◌<◌, ◌≤◌, ℤ, pos, negsuc, ◌+ℤ◌, ◌-ℤ◌, ◌*ℤ◌, neg_ℤ, List, [], ◌∷◌, ◌++◌, length, take, drop, replicate, get_or, refl, sym, ap, subst, ◌∙◌, inl, inr, arith}
use Rattle.std.specs.Prelude.{unsigned_abs}
use Rattle.std.specs.List.{All}
use Rattle.std.proofs.lemmas.List.{length-append, length-replicate, length-take-le, length-drop}
use Rattle.std.proofs.lemmas.List.Elements.{All-nil, All-cons, All-head, All-tail, All-append, All-weaker}
use Rattle.std.proofs.lemmas.Int.{ints, unsigned_abs-mul}
use Rattle.std.proofs.lemmas.Nat.{mul-le}
use Rattle.std.proofs.Math.Nat.{suc-mul, mul-le-mul_right}
use Rattle.affc_rows.specs.Forms.{Affine, value, magnitude, dot, dot_magnitude, columns_of, column_of, constants_of, composed, composed_magnitudes, composed_form_magnitudes, TooWide}
use Rattle.affc_rows.specs.Forms.{mixed, mixed_form, mixed_magnitudes, mixed_form_magnitudes, entry_magnitude}
use Rattle.affc_rows.specs.Sizes.{IsWithin}
use Rattle.affc_rows.specs.Vocabulary.{unit_of, number_form, column_form, spread, widened, padded, gap_row}
use Rattle.affc_rows.proofs.IntLemmas.{abs-add, one-mul}
use Rattle.affc_rows.proofs.ValueLemmas.{length-mixed}
use Rattle.affc_rows.proofs.VocabularyLemmas.{unit_width}

-- ---- Sums of products

abbrev pub Below : ℕ → List ℤ → Type 0
Below n cs = All (λ c. unsigned_abs c ≤ n) cs

more_terms : (n m d e f : ℕ) → d ≤ n * m → e ≤ m → f ≡ e + d → f ≤ suc n * m
more_terms n m d e f h g i = let j : suc n * m ≡ n * m + m = suc-mul n m in omega arith

pub dot_below : (a b : ℕ) (cs ds : List ℤ) → Below a cs → Below b ds → dot_magnitude cs ds ≤ length cs * (a * b)
dot_below a b [] ds h g = omega arith
dot_below a b (c ∷ cs) [] h g = omega arith
dot_below a b (c ∷ cs) (d ∷ ds) h g =
    more_terms (length cs) (a * b) (dot_magnitude cs ds) (unsigned_abs c * unsigned_abs d) (dot_magnitude (c ∷ cs) (d ∷ ds)) (dot_below a b cs ds (All-tail (λ c. unsigned_abs c ≤ a) c cs h) (All-tail (λ d. unsigned_abs d ≤ b) d ds g))
    (mul-le (unsigned_abs c) (unsigned_abs d) a b (All-head (λ c. unsigned_abs c ≤ a) c cs h) (All-head (λ d. unsigned_abs d ≤ b) d ds g)) refl

pub dot_abs : (cs xs : List ℤ) → unsigned_abs (dot cs xs) ≤ dot_magnitude cs xs
dot_abs [] xs = omega arith
dot_abs (c ∷ cs) [] = omega arith
dot_abs (c ∷ cs) (x ∷ xs) =
    let a = abs-add (c *ℤ x) (dot cs xs) in
    let b : unsigned_abs (c *ℤ x) ≡ unsigned_abs c * unsigned_abs x = unsigned_abs-mul c x in
    let d = dot_abs cs xs in
    omega arith

-- the same of a sum itself, of at most so many products
pub dot_within : (a b n : ℕ) (cs xs : List ℤ) → Below a cs → Below b xs → length cs ≤ n → unsigned_abs (dot cs xs) ≤ n * (a * b)
dot_within a b n cs xs h g few = through (unsigned_abs (dot cs xs)) (dot_magnitude cs xs) (length cs * (a * b)) (n * (a * b)) (dot_abs cs xs) (dot_below a b cs xs h g) (mul-le-mul_right (a * b) few)
  where
    through : (w x y z : ℕ) → w ≤ x → x ≤ y → y ≤ z → w ≤ z
    through w x y z h g k = omega (arith, h, g, k)

-- ---- Entries of images

pub entry_below : (n : ℕ) (cs : List ℤ) (j : ℕ) → Below n cs → unsigned_abs (get_or cs j (pos 0)) ≤ n
entry_below n [] j h = omega arith
entry_below n (c ∷ cs) zero h = All-head (λ c. unsigned_abs c ≤ n) c cs h
entry_below n (c ∷ cs) (suc j) h = entry_below n cs j (All-tail (λ c. unsigned_abs c ≤ n) c cs h)

-- forms with entries within a number
pub record IsBelow (n : ℕ) (f : Affine) : Type 0 where
  pub coefs_fit : Below n f.coefs
  pub constant_fits : unsigned_abs f.constant ≤ n

pub column_below : (n j : ℕ) (gs : List Affine) → All (IsBelow n) gs → Below n (column_of j gs)
column_below n j [] h = All-nil (λ d. unsigned_abs d ≤ n)
column_below n j (g ∷ gs) h =
    All-cons (λ d. unsigned_abs d ≤ n) (get_or g.coefs j (pos 0)) (column_of j gs) (entry_below n g.coefs j (All-head (IsBelow n) g gs h).coefs_fit) (column_below n j gs (All-tail (IsBelow n) g gs h))

pub constants_below : (n : ℕ) (gs : List Affine) → All (IsBelow n) gs → Below n (constants_of gs)
constants_below n [] h = All-nil (λ d. unsigned_abs d ≤ n)
constants_below n (g ∷ gs) h = All-cons (λ d. unsigned_abs d ≤ n) g.constant (constants_of gs) (All-head (IsBelow n) g gs h).constant_fits (constants_below n gs (All-tail (IsBelow n) g gs h))

-- the entries of a composition
module _ (a b : ℕ) (cs : List ℤ) (gs : List Affine) (small : Below a cs) (are : All (IsBelow b) gs) where
  pub composed_below : (j n : ℕ) → Below (length cs * (a * b)) (composed cs gs j n)
  composed_below j zero = All-nil (λ c. unsigned_abs c ≤ length cs * (a * b))
  composed_below j (suc n) =
      All-cons (λ c. unsigned_abs c ≤ length cs * (a * b)) (dot cs (column_of j gs)) (composed cs gs (suc j) n)
      (through (unsigned_abs (dot cs (column_of j gs))) (dot_magnitude cs (column_of j gs)) (length cs * (a * b)) (dot_abs cs (column_of j gs)) (dot_below a b cs (column_of j gs) small (column_below b j gs are))) (composed_below (suc j) n)
    where
      through : (x y z : ℕ) → x ≤ y → y ≤ z → x ≤ z
      through x y z h g = omega (arith, h, g)

  pub constant_below : unsigned_abs (dot cs (constants_of gs)) ≤ length cs * (a * b)
  constant_below = through (unsigned_abs (dot cs (constants_of gs))) (dot_magnitude cs (constants_of gs)) (length cs * (a * b)) (dot_abs cs (constants_of gs)) (dot_below a b cs (constants_of gs) small (constants_below b gs are))
    where
      through : (x y z : ℕ) → x ≤ y → y ≤ z → x ≤ z
      through x y z h g = omega (arith, h, g)

-- a composition stays within the range of the code's numbers where no sum of products passes 2^120
module _ (f : Affine) (gs : List Affine) (columns_few : (j : ℕ) → dot_magnitude f.coefs (column_of j gs) ≤ 2 ^ 120) (constants_few : dot_magnitude f.coefs (constants_of gs) ≤ 2 ^ 120) (constant_few : unsigned_abs f.constant ≤ 2 ^ 120) where
  past : (d : ℕ) → d ≤ 2 ^ 120 → 2 ^ 126 < d → ⊥
  past d h g = absurd (omega (arith, h, g))

  columns_within : (j n : ℕ) → TooWide (composed_magnitudes f.coefs gs j n) → ⊥
  columns_within j zero w = w
  columns_within j (suc n) (inl w) = past (dot_magnitude f.coefs (column_of j gs)) (columns_few j) w
  columns_within j (suc n) (inr w) = columns_within (suc j) n w

  pub composition_within : TooWide (composed_form_magnitudes f gs) → ⊥
  composition_within (inl w) = both (dot_magnitude f.coefs (constants_of gs)) (unsigned_abs f.constant) constants_few constant_few w
    where
      both : (d k : ℕ) → d ≤ 2 ^ 120 → k ≤ 2 ^ 120 → 2 ^ 126 < d + k → ⊥
      both d k h g w = absurd (omega (arith, h, g, w))
  composition_within (inr w) = columns_within 0 (columns_of gs) w

-- ---- Values

-- ---- Forms within limits

below_raised : (a b : ℕ) → a ≤ b → (cs : List ℤ) → Below a cs → Below b cs
below_raised a b h cs all = All-weaker (λ c. unsigned_abs c ≤ a) (λ c. unsigned_abs c ≤ b) (λ c g. more (unsigned_abs c) g) cs all
  where
    more : (n : ℕ) → n ≤ a → n ≤ b
    more n g = omega (arith, h, g)

pub within_raised : (n a k b l : ℕ) (f : Affine) → a ≤ b → k ≤ l → IsWithin n a k f → IsWithin n b l f
within_raised n a k b l f h g w = record { width = w.width; coefs_fit = below_raised a b h f.coefs w.coefs_fit; constant_fits = last (unsigned_abs f.constant) w.constant_fits }
  where
    last : (m : ℕ) → m ≤ k → m ≤ l
    last m d = omega (arith, g, d)

pub all_raised : (n a k b l : ℕ) (fs : List Affine) → a ≤ b → k ≤ l → All (IsWithin n a k) fs → All (IsWithin n b l) fs
all_raised n a k b l fs h g all = All-weaker (IsWithin n a k) (IsWithin n b l) (λ f w. within_raised n a k b l f h g w) fs all

zeros_below : (a n : ℕ) → Below a (replicate n (pos 0))
zeros_below a zero = All-nil (λ c. unsigned_abs c ≤ a)
zeros_below a (suc n) = All-cons (λ c. unsigned_abs c ≤ a) (pos 0) (replicate n (pos 0)) (omega arith) (zeros_below a n)

unit_below : (a n j : ℕ) → 1 ≤ a → Below a (unit_of n j)
unit_below a zero j h = All-nil (λ c. unsigned_abs c ≤ a)
unit_below a (suc n) zero h = All-cons (λ c. unsigned_abs c ≤ a) (pos 1) (replicate n (pos 0)) h (zeros_below a n)
unit_below a (suc n) (suc j) h = All-cons (λ c. unsigned_abs c ≤ a) (pos 0) (unit_of n j) (omega arith) (unit_below a n j h)

pub number_within : (n a k : ℕ) (z : ℤ) → unsigned_abs z ≤ k → IsWithin n a k (number_form n z)
number_within n a k z h = record { width = length-replicate n (pos 0); coefs_fit = zeros_below a n; constant_fits = h }

pub column_within : (n a k j : ℕ) → 1 ≤ a → IsWithin n a k (column_form n j)
column_within n a k j h = record { width = unit_width n j; coefs_fit = unit_below a n j h; constant_fits = omega arith }

-- ---- Columns between and behind

front_below : (a m : ℕ) (cs : List ℤ) → Below a cs → Below a (take m cs)
front_below a zero cs h = All-nil (λ c. unsigned_abs c ≤ a)
front_below a (suc m) [] h = All-nil (λ c. unsigned_abs c ≤ a)
front_below a (suc m) (c ∷ cs) h = All-cons (λ c. unsigned_abs c ≤ a) c (take m cs) (All-head (λ c. unsigned_abs c ≤ a) c cs h) (front_below a m cs (All-tail (λ c. unsigned_abs c ≤ a) c cs h))

back_below : (a m : ℕ) (cs : List ℤ) → Below a cs → Below a (drop m cs)
back_below a zero cs h = h
back_below a (suc m) [] h = All-nil (λ c. unsigned_abs c ≤ a)
back_below a (suc m) (c ∷ cs) h = back_below a m cs (All-tail (λ c. unsigned_abs c ≤ a) c cs h)

pub spread_width : (m between l behind : ℕ) (f : Affine) → length f.coefs ≡ m + l → length (spread m between behind f).coefs ≡ ((m + between) + l) + behind
spread_width m between l behind f w =
    let a = length-take-le m f.coefs (less (length f.coefs) w) in
    let b = length-drop m f.coefs in
    let c = length-append (take m f.coefs) (replicate between (pos 0) ++ (drop m f.coefs ++ replicate behind (pos 0))) in
    let d = length-append (replicate between (pos 0)) (drop m f.coefs ++ replicate behind (pos 0)) in
    let g = length-append (drop m f.coefs) (replicate behind (pos 0)) in
    let h = length-replicate between (pos 0) in
    let i = length-replicate behind (pos 0) in
    omega (arith, w, a, b, c, d, g, h, i)
  where
    less : (n : ℕ) → n ≡ m + l → m ≤ n
    less n e = omega (arith, e)

pub spread_within : (m between l behind columns a k : ℕ) (f : Affine) → IsWithin (m + l) a k f → ((m + between) + l) + behind ≡ columns → IsWithin columns a k (spread m between behind f)
spread_within m between l behind columns a k f w e = record {
  width = spread_width m between l behind f w.width ∙ e;
  coefs_fit = All-append (λ c. unsigned_abs c ≤ a) (take m f.coefs) (replicate between (pos 0) ++ (drop m f.coefs ++ replicate behind (pos 0))) (front_below a m f.coefs w.coefs_fit)
      (All-append (λ c. unsigned_abs c ≤ a) (replicate between (pos 0)) (drop m f.coefs ++ replicate behind (pos 0)) (zeros_below a between)
      (All-append (λ c. unsigned_abs c ≤ a) (drop m f.coefs) (replicate behind (pos 0)) (back_below a m f.coefs w.coefs_fit) (zeros_below a behind)));
  constant_fits = w.constant_fits;
}

pub widened_within : (n more a k : ℕ) (f : Affine) → IsWithin n a k f → IsWithin (n + more) a k (widened more f)
widened_within n more a k f w = record {
  width = length-append f.coefs (replicate more (pos 0)) ∙ ap (λ m. m + length (replicate more (pos 0))) w.width ∙ ap (λ m. n + m) (length-replicate more (pos 0));
  coefs_fit = All-append (λ c. unsigned_abs c ≤ a) f.coefs (replicate more (pos 0)) w.coefs_fit (zeros_below a more);
  constant_fits = w.constant_fits;
}

pub padded_within : (n columns a k : ℕ) (f : Affine) → n ≤ columns → IsWithin n a k f → IsWithin columns a k (padded columns f)
padded_within n columns a k f h w =
    subst (λ m. IsWithin m a k (widened (columns - length f.coefs) f)) (whole (length f.coefs) w.width) (widened_within n (columns - length f.coefs) a k f w)
  where
    whole : (m : ℕ) → m ≡ n → n + (columns - m) ≡ columns
    whole m e = omega (arith, h, e)

-- ---- Differences

negated : (z : ℤ) → negsuc 0 *ℤ z ≡ neg_ℤ z
negated z = omega (arith, ints)

abs_neg : (z : ℤ) → unsigned_abs (neg_ℤ z) ≡ unsigned_abs z
abs_neg (pos zero) = refl
abs_neg (pos (suc n)) = refl
abs_neg (negsuc n) = refl

pub difference_abs : (x y : ℤ) → unsigned_abs ((pos 1 *ℤ x) +ℤ (negsuc 0 *ℤ y)) ≤ unsigned_abs x + unsigned_abs y
difference_abs x y =
    let a = abs-add (pos 1 *ℤ x) (negsuc 0 *ℤ y) in
    let b : unsigned_abs (pos 1 *ℤ x) ≡ unsigned_abs x = ap unsigned_abs (one-mul x) in
    let d : unsigned_abs (negsuc 0 *ℤ y) ≡ unsigned_abs y = ap unsigned_abs (negated y) ∙ abs_neg y in
    omega arith

differences_below : (a : ℕ) (cs ds : List ℤ) → Below a cs → Below a ds → Below (a + a) (mixed (pos 1) cs (negsuc 0) ds)
differences_below a [] ds h g = All-nil (λ c. unsigned_abs c ≤ a + a)
differences_below a (c ∷ cs) [] h g = All-nil (λ c. unsigned_abs c ≤ a + a)
differences_below a (c ∷ cs) (d ∷ ds) h g =
    All-cons (λ c. unsigned_abs c ≤ a + a) ((pos 1 *ℤ c) +ℤ (negsuc 0 *ℤ d)) (mixed (pos 1) cs (negsuc 0) ds)
    (both (unsigned_abs ((pos 1 *ℤ c) +ℤ (negsuc 0 *ℤ d))) (unsigned_abs c) (unsigned_abs d) (difference_abs c d) (All-head (λ c. unsigned_abs c ≤ a) c cs h) (All-head (λ c. unsigned_abs c ≤ a) d ds g))
    (differences_below a cs ds (All-tail (λ c. unsigned_abs c ≤ a) c cs h) (All-tail (λ c. unsigned_abs c ≤ a) d ds g))
  where
    both : (x u v : ℕ) → x ≤ u + v → u ≤ a → v ≤ a → x ≤ a + a
    both x u v e h g = omega (arith, e, h, g)

pub difference_within : (n a k : ℕ) (f g : Affine) → IsWithin n a k f → IsWithin n a k g → IsWithin n (a + a) (k + k) (mixed_form (pos 1) f (negsuc 0) g)
difference_within n a k f g v w = record {
  width = length-mixed (pos 1) f.coefs (negsuc 0) g.coefs (v.width ∙ sym w.width) ∙ v.width;
  coefs_fit = differences_below a f.coefs g.coefs v.coefs_fit w.coefs_fit;
  constant_fits = both (unsigned_abs ((pos 1 *ℤ f.constant) +ℤ (negsuc 0 *ℤ g.constant))) (unsigned_abs f.constant) (unsigned_abs g.constant) (difference_abs f.constant g.constant) v.constant_fits w.constant_fits;
}
  where
    both : (x u v : ℕ) → x ≤ u + v → u ≤ k → v ≤ k → x ≤ k + k
    both x u v e h g = omega (arith, e, h, g)

pub gap_within : (n a k s : ℕ) (f g : Affine) → IsWithin n a k f → IsWithin n a k g → s ≤ 1 → IsWithin n (a + a) ((k + k) + 1) (gap_row f g s)
gap_within n a k s f g v w h =
    let d = difference_within n a k g f w v in
    record { width = d.width; coefs_fit = d.coefs_fit; constant_fits = less (mixed_form (pos 1) g (negsuc 0) f).constant d.constant_fits }
  where
    less : (z : ℤ) → unsigned_abs z ≤ k + k → unsigned_abs (z -ℤ pos s) ≤ (k + k) + 1
    less z e = omega (arith, ints, e, h)

-- a difference of forms within 2^124 stays within the range of the code's numbers
entry_narrow : (a : ℕ) (c d : ℤ) → a ≤ 2 ^ 124 → unsigned_abs c ≤ a → unsigned_abs d ≤ a → 2 ^ 126 < entry_magnitude (pos 1) c (negsuc 0) d → ⊥
entry_narrow a c d l h g w = absurd (omega (arith, l, h, g, w))

entries_narrow : (a : ℕ) (cs ds : List ℤ) → a ≤ 2 ^ 124 → Below a cs → Below a ds → TooWide (mixed_magnitudes (pos 1) cs (negsuc 0) ds) → ⊥
entries_narrow a [] ds l h g w = w
entries_narrow a (c ∷ cs) [] l h g w = w
entries_narrow a (c ∷ cs) (d ∷ ds) l h g (inl w) = entry_narrow a c d l (All-head (λ c. unsigned_abs c ≤ a) c cs h) (All-head (λ c. unsigned_abs c ≤ a) d ds g) w
entries_narrow a (c ∷ cs) (d ∷ ds) l h g (inr w) = entries_narrow a cs ds l (All-tail (λ c. unsigned_abs c ≤ a) c cs h) (All-tail (λ c. unsigned_abs c ≤ a) d ds g) w

pub not_too_wide : (n a k : ℕ) (f g : Affine) → a ≤ 2 ^ 124 → k ≤ 2 ^ 124 → IsWithin n a k f → IsWithin n a k g → TooWide (mixed_form_magnitudes (pos 1) f (negsuc 0) g) → ⊥
not_too_wide n a k f g h l v w (inl e) = entry_narrow k f.constant g.constant l v.constant_fits w.constant_fits e
not_too_wide n a k f g h l v w (inr e) = entries_narrow a f.coefs g.coefs h v.coefs_fit w.coefs_fit e
