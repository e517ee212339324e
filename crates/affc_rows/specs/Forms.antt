-- Affine forms over numbered columns: their values, mixtures and compositions, over whole numbers without limit.
use Rattle.std.specs.Prelude.{◌≡◌, ℕ, zero, suc, ◌+◌, ◌*◌, ◌^◌, ◌<◌, ◌≤◌, ◌⊎◌, List, [], ◌∷◌, length, get_or, ℤ, pos, ◌+ℤ◌, ◌*ℤ◌, unsigned_abs}
use Rattle.std.specs.List.{All}

-- an affine form: a coefficient for each column, and a constant
pub record Affine : Type 0 where
  pub coefs : List ℤ
  pub constant : ℤ

-- the sum of the products, term by term
abbrev pub dot : List ℤ → List ℤ → ℤ
dot [] xs = pos 0
dot (c ∷ cs) [] = pos 0
dot (c ∷ cs) (x ∷ xs) = (c *ℤ x) +ℤ dot cs xs

-- the sum of the magnitudes of these products
abbrev pub dot_magnitude : List ℤ → List ℤ → ℕ
dot_magnitude [] xs = 0
dot_magnitude (c ∷ cs) [] = 0
dot_magnitude (c ∷ cs) (x ∷ xs) = unsigned_abs c * unsigned_abs x + dot_magnitude cs xs

-- the value of a form at a point
abbrev pub value : Affine → List ℤ → ℤ
value f point = dot f.coefs point +ℤ f.constant

-- the sum of the magnitudes of all terms of that value
abbrev pub magnitude : Affine → List ℤ → ℕ
magnitude f point = dot_magnitude f.coefs point + unsigned_abs f.constant

-- s times the first list plus t times the second, entry by entry
abbrev pub mixed : ℤ → List ℤ → ℤ → List ℤ → List ℤ
mixed s [] t ds = []
mixed s (c ∷ cs) t [] = []
mixed s (c ∷ cs) t (d ∷ ds) = ((s *ℤ c) +ℤ (t *ℤ d)) ∷ mixed s cs t ds

-- the form s f + t g
abbrev pub mixed_form : ℤ → Affine → ℤ → Affine → Affine
mixed_form s f t g = record { coefs = mixed s f.coefs t g.coefs; constant = (s *ℤ f.constant) +ℤ (t *ℤ g.constant) }

-- the sum of the two magnitudes in s c + t d
abbrev pub entry_magnitude : ℤ → ℤ → ℤ → ℤ → ℕ
entry_magnitude s c t d = unsigned_abs s * unsigned_abs c + unsigned_abs t * unsigned_abs d

-- that sum for each entry of a mixed list
abbrev pub mixed_magnitudes : ℤ → List ℤ → ℤ → List ℤ → List ℕ
mixed_magnitudes s [] t ds = []
mixed_magnitudes s (c ∷ cs) t [] = []
mixed_magnitudes s (c ∷ cs) t (d ∷ ds) = entry_magnitude s c t d ∷ mixed_magnitudes s cs t ds

-- that sum for the constant and each coefficient of s f + t g
abbrev pub mixed_form_magnitudes : ℤ → Affine → ℤ → Affine → List ℕ
mixed_form_magnitudes s f t g = entry_magnitude s f.constant t g.constant ∷ mixed_magnitudes s f.coefs t g.coefs

-- the number of columns of forms over the same columns: that of the first, or none where there is no form
abbrev pub columns_of : List Affine → ℕ
columns_of [] = 0
columns_of (g ∷ gs) = length g.coefs

-- each form has so many columns
abbrev pub HaveColumns : ℕ → List Affine → Type 0
HaveColumns n forms = All (λ g. length g.coefs ≡ n) forms

-- the coefficients of the forms in one column
abbrev pub column_of : ℕ → List Affine → List ℤ
column_of j [] = []
column_of j (g ∷ gs) = get_or g.coefs j (pos 0) ∷ column_of j gs

-- the constants of the forms
abbrev pub constants_of : List Affine → List ℤ
constants_of [] = []
constants_of (g ∷ gs) = g.constant ∷ constants_of gs

-- the values of the forms at one point
abbrev pub values_of : List Affine → List ℤ → List ℤ
values_of [] point = []
values_of (g ∷ gs) point = value g point ∷ values_of gs point

-- a row of coefficients times the images' coefficients, for n columns from column j on
abbrev pub composed : List ℤ → List Affine → ℕ → ℕ → List ℤ
composed cs images j zero = []
composed cs images j (suc n) = dot cs (column_of j images) ∷ composed cs images (suc j) n

-- the form f with each column replaced by its image, as the product of a row and a matrix
abbrev pub composed_form : Affine → List Affine → Affine
composed_form f images = record { coefs = composed f.coefs images 0 (columns_of images); constant = dot f.coefs (constants_of images) +ℤ f.constant }

-- the sum of the magnitudes of all terms for each entry of a composed list
abbrev pub composed_magnitudes : List ℤ → List Affine → ℕ → ℕ → List ℕ
composed_magnitudes cs images j zero = []
composed_magnitudes cs images j (suc n) = dot_magnitude cs (column_of j images) ∷ composed_magnitudes cs images (suc j) n

-- that sum for the constant and each coefficient of a composed form
abbrev pub composed_form_magnitudes : Affine → List Affine → List ℕ
composed_form_magnitudes f images = (dot_magnitude f.coefs (constants_of images) + unsigned_abs f.constant) ∷ composed_magnitudes f.coefs images 0 (columns_of images)

-- each of these sums of magnitudes is at most 2^126
abbrev pub AllFit : List ℕ → Type 0
AllFit [] = Unit {0}
AllFit (n ∷ ns) = (n ≤ 2 ^ 126) × AllFit ns

-- some one of them is more
abbrev pub TooWide : List ℕ → Type 0
TooWide [] = ⊥
TooWide (n ∷ ns) = (2 ^ 126 < n) ⊎ TooWide ns
