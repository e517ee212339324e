-- Forms that give back what other forms have been applied to.
use Rattle.std.specs.Prelude.{◌≡◌, ℕ, zero, suc, ◌+◌, ◌-◌, ℤ, pos, List, [], ◌∷◌, ◌++◌, length, slice_get, Some}
use Rattle.affc_rows.specs.Forms.{Affine, columns_of, composed_form}

abbrev pub zeros : ℕ → List ℤ
zeros zero = []
zeros (suc m) = pos 0 ∷ zeros m

-- n coefficients, of which the one of column j is 1 and the others are 0
abbrev pub unit_row : ℕ → ℕ → List ℤ
unit_row zero j = []
unit_row (suc n) zero = pos 1 ∷ zeros n
unit_row (suc n) (suc j) = pos 0 ∷ unit_row n j

-- the form over n columns whose value is that of column j
abbrev pub column : ℕ → ℕ → Affine
column n j = record { coefs = unit_row n j; constant = pos 0 }

-- so many of them, from column j on
abbrev pub columns_from : ℕ → ℕ → ℕ → List Affine
columns_from n j zero = []
columns_from n j (suc m) = column n j ∷ columns_from n (suc j) m

-- the k-th of these forms, with the images put in, is the column that comes k after `first`
abbrev pub GivesColumn : List Affine → List Affine → ℕ → ℕ → Type 0
GivesColumn forms images first k = (g : Affine) → slice_get forms k ≡ Some g → composed_form g images ≡ column (columns_of images) (first + k)

-- The inverse forms at the first columns and these forms give the last columns back: the product is the identity.
abbrev pub AreInverse : List Affine → List Affine → Type 0
AreInverse forms inverse =
    let n = columns_of forms in
    let first = n - length inverse in
    (k : ℕ) → GivesColumn inverse (columns_from n 0 first ++ forms) first k
